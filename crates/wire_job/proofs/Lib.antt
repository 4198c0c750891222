mod Program
mod Network
mod Control
mod Ready
