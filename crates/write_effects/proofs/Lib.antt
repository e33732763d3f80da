mod AnswerLemmas
mod ByteLemmas
mod CountLemmas
mod EffectLaw
mod EffectLemmas
mod EntryLemmas
mod RequestLemmas
