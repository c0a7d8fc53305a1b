pub mod HandlerSteps
pub mod Handlers
pub mod FromMiddle
pub mod Places
pub mod ValueScanner
pub mod Steps
