-- What holds of the rules of P4 where exits are taken out of a program.
pub mod Laws
