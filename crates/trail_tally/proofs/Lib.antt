mod AnsweredLemmas
mod TallyLemmas
