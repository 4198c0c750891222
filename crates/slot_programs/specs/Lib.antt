-- What callers rest on: how many slots a program needs beside those of its paths, which programs
-- have code, and when tables choose by numbers what they choose by names. To be read in this order.
pub mod Room
pub mod Sight
pub mod Known
pub mod Chooses
pub mod CodesOf
