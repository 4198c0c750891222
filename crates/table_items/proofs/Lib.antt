mod RaiseLemmas
mod SumLemmas
mod LimitLemmas
