mod EventLemmas
mod Steps
mod Ready
