pub mod ParamsTold
pub mod Groups
