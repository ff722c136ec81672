pub mod Levels
pub mod Params
pub mod ParamsSteps
pub mod Conf
