mod KeptLemmas
mod StepLemmas
mod TakenLemmas
mod WriteLemmas
