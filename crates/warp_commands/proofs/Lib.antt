mod AnsweredLemmas
mod BroughtLemmas
mod CauseLemmas
mod DrivenLemmas
mod HeadlineLemmas
mod PrintLemmas
mod ServingLemmas
mod WordLemmas
