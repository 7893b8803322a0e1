mod EventLemmas
mod TurnLemmas
