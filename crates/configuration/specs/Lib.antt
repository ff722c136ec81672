pub mod ConfigurationRules
pub mod ConfigurationSteps
pub mod ConfigurationTold
pub mod FolderTexts
