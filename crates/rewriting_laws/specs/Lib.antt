-- What callers rest on: which expressions have a width of their own, what may stand for an expression, and laws. To be
-- read in this order.
pub mod OwnWidths
pub mod Standing
pub mod Laws
-- What serves the proofs: that each of these is a fact, which the ghost field of a rule needs.
pub mod Facts
