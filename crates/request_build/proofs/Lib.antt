mod CommandLemmas
mod FlagLemmas
