mod Counts
mod Numbers
