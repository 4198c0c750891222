pub mod Given
mod Steps
mod Ready
