mod FlagLemmas
mod LevelLemmas
mod LineLemmas
mod MetLemmas
mod NumberLemmas
