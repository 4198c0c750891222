-- What a program without exits has of the given one.
pub mod Lowered
