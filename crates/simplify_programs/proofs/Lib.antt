mod Names
mod Facts
