-- Words that are no flags, as clap meets them: they go to the next positional.
use Rattle.std.proofs.Common.{◌≡◌, ◌∙◌, ◌<◌, ℕ, Bool, false, refl, ap, ap₂, arith, List, [], ◌∷◌, Some, None, length, position, true≢false, lt-ltb, inl, inr}
use Rattle.std.specs.List.{All, position_or_len, slice_index_or}
use Rattle.std.specs.Option.{is_some, option_map_or}
use Rattle.std.specs.Str.{bytes_eq}
use Rattle.std.proofs.lemmas.Bool.{cases_lt}
use Rattle.std.proofs.lemmas.List.Sums.{fails_before_first}
use Rattle.clap.specs.Faults.{bundle_fault, flag_word_fault, other_fault, step_fault, turn_fault}
use Rattle.clap.specs.Kinds.{or_else}
use Rattle.clap.specs.Lexer.{long_of, short_of}
use Rattle.clap.specs.Simple.{Shape}
use Rattle.clap.specs.Walk.{Held, Names, Rule, Step, Text, Walk, after_step, arg_by_index, idle, long_or_other, short_or_plain, subcommand_met, subcommand_or_other, to_positional, value, walked, word_met}
use Rattle.run_words.specs.Words.{dash_in, has_dash}

-- a word that is no flag
pub record IsNoFlag (u : Text) : Type 0 where
  pub long : long_of u ≡ None
  pub short : short_of u ≡ None
  pub whole : bytes_eq u (45 ∷ 45 ∷ []) ≡ false

no_flag : (u : Text) → has_dash u ≡ false → IsNoFlag u
no_flag [] e = record { long = refl; short = refl; whole = refl }
no_flag (b ∷ bs) e = record { long = rw e refl; short = rw e refl; whole = rw e refl }

some≢none : {X : Type 0} (x : X) → Some x ≡ None → ⊥
some≢none x e = true≢false (ap (λ o. is_some o) e)

none_passes : {X : Type 0} (p : X → Bool) (xs : List X) (d : X) → position p xs ≡ None → (k : ℕ) → k < length xs → p (slice_index_or xs k d) ≡ false
none_passes p xs d none k lt = elim (cases_lt (position_or_len p xs) (length xs)) [
  | inl inside ↦ absurd (some≢none (position_or_len p xs) (rw (lt-ltb (position_or_len p xs) (length xs) inside) at none))
  | inr past ↦ fails_before_first p xs k d (omega arith)
]

-- no word is a flag where none begins with a dash
pub no_flags : (words : List Text) → dash_in words ≡ None → All IsNoFlag words
no_flags words none k d lt = no_flag (slice_index_or words k d) (none_passes has_dash words d none k lt)

other_met : (c : List Rule) (position : ℕ) (h : Held) (u : Text) → IsNoFlag u → subcommand_or_other c None idle position u h ≡ (h, value)
other_met c position h u p =
    rw p.whole (ap (λ o. long_or_other c idle u o h) p.long ∙ ap (λ o. short_or_plain c idle u o h) p.short)

no_fault : (s : Shape) (h : Held) (u : Text) → IsNoFlag u → other_fault s None u h ≡ []
no_fault s h u p = rw p.whole (ap (λ o. flag_word_fault s.rules s.args_override_self o u h) p.long
    ∙ ap (λ o. option_map_or (λ flags. bundle_fault s.rules s.args_override_self flags h) o []) p.short)

-- the walk stands at a position, and nothing waits
abbrev pub at : Held → ℕ → Walk
at h position = record { held = h; waiting = idle; position = position; is_trailing = false; stopped = None }

module _ (names : Names) (u : Text) (p : IsNoFlag u) (own : subcommand_met names idle u ≡ None) where
  met : (c : List Rule) (position : ℕ) (h : Held) → word_met c names false idle position u h ≡ (h, value)
  met c position h = ap (λ o. subcommand_or_other c o idle position u h) own ∙ other_met c position h u p

  pub value_walked : (c : List Rule) (h : Held) (position : ℕ) → walked c names (at h position) u ≡ to_positional c (arg_by_index c position) u (at h position) h
  unfolding walked
  value_walked c h position = ap (λ (m : Held × Step). after_step c u (at h position) m.0 m.1) (met c position h)

  pub value_turn : (s : Shape) (h : Held) (position : ℕ) → turn_fault s names (at h position) u ≡ step_fault s position h value
  value_turn s h position = ap₂ (λ k (m : Held × Step). or_else k (step_fault s position m.0 m.1))
      (ap (λ o. other_fault s o u h) own ∙ no_fault s h u p) (met s.rules position h)
