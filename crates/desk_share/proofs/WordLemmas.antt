-- The words of entries that are appended to a trail.
use Rattle.std.proofs.Common.{◌≡◌, ℕ, ◌==◌, true, false, List, refl, sym, subst, eq-eqb}
use Rattle.std.proofs.lemmas.List.Elements.{All-append}
use Rattle.entry_judge.specs.declared.timed.Timed.{Timed}
use Rattle.sess_book.specs.Ids.{id_of}
use Rattle.desk_trail.specs.Facts.{Fact}
use Rattle.desk_trail.specs.Facts as fact
use Rattle.desk_core.specs.Appends.{IsBy, NamesNone, Tells}
use Rattle.desk_core.specs.declared.words.Words.{Words}
use Rattle.desk_share.specs.Holds.{AreWords}
use Rattle.desk_share.specs.Shared.{AreRolled, IsRolled}

self-named : (op : ℕ) → (op == op) ≡ false → ⊥
self-named op e = let same : (op == op) ≡ true = eq-eqb op op refl in let never : ⊥ = cc in never

-- An entry of a command's step is by the words of that step.
rolled-by : (rolls : ℕ → Type 0) (op : ℕ) (words : Words) (f : Fact) → AreWords rolls words → IsBy op words.a words.b (id_of words.c words.d) f → IsRolled rolls f
rolled-by rolls op words (fact.Named host address) rolled is_by = tt
rolled-by rolls op words (fact.Dropped host) rolled is_by = tt
rolled-by rolls op words (fact.Offered place event taken) rolled is_by = tt
rolled-by rolls op words (fact.PoolReady host) rolled is_by = tt
rolled-by rolls op words (fact.PoolClear host) rolled is_by = tt
rolled-by rolls op words (fact.PoolShut host) rolled is_by = tt
rolled-by rolls op words (fact.CheckBegan host stream) rolled is_by = tt
rolled-by rolls op words (fact.CheckDry host) rolled is_by = tt
rolled-by rolls op words (fact.CheckEnded host how) rolled is_by = tt
rolled-by rolls op words (fact.Looked o a b kept picked) rolled is_by = (subst rolls (sym is_by.looks.0) rolled.a, subst rolls (sym is_by.looks.1) rolled.b)
rolled-by rolls op words (fact.Entered o host ticket) rolled is_by = tt
rolled-by rolls op words (fact.Lent o host conn) rolled is_by = tt
rolled-by rolls op words (fact.Dialled o host conn stream) rolled is_by = tt
rolled-by rolls op words (fact.Settled o host conn stale) rolled is_by = tt
rolled-by rolls op words (fact.NotLent o host why) rolled is_by = tt
rolled-by rolls op words (fact.CheckedIn o host conn errored) rolled is_by = tt
rolled-by rolls op words (fact.ConnShut host conn reason) rolled is_by = tt
rolled-by rolls op words (fact.Leased o place lsid true) rolled is_by =
    record { c = words.c; d = words.d; rolled_c = rolled.c; rolled_d = rolled.d; made = is_by.leases }
rolled-by rolls op words (fact.Leased o place lsid false) rolled is_by = tt
rolled-by rolls op words (fact.Drew o number) rolled is_by = tt
rolled-by rolls op words (fact.Returned o dirty kept) rolled is_by = tt
rolled-by rolls op words (fact.Asked place request) rolled is_by = tt
rolled-by rolls op words (fact.Ended o end) rolled is_by = tt
rolled-by rolls op words (fact.Time stamp) rolled is_by = tt
rolled-by rolls op words (fact.Finished o outcome) rolled is_by = tt

-- An entry of no command has no words.
rolled-aside : (rolls : ℕ → Type 0) (f : Fact) → NamesNone f → IsRolled rolls f
rolled-aside rolls (fact.Named host address) none = tt
rolled-aside rolls (fact.Dropped host) none = tt
rolled-aside rolls (fact.Offered place event taken) none = tt
rolled-aside rolls (fact.PoolReady host) none = tt
rolled-aside rolls (fact.PoolClear host) none = tt
rolled-aside rolls (fact.PoolShut host) none = tt
rolled-aside rolls (fact.CheckBegan host stream) none = tt
rolled-aside rolls (fact.CheckDry host) none = tt
rolled-aside rolls (fact.CheckEnded host how) none = tt
rolled-aside rolls (fact.Looked op a b kept picked) none = absurd (self-named op (none op))
rolled-aside rolls (fact.Entered op host ticket) none = tt
rolled-aside rolls (fact.Lent op host conn) none = tt
rolled-aside rolls (fact.Dialled op host conn stream) none = tt
rolled-aside rolls (fact.Settled op host conn stale) none = tt
rolled-aside rolls (fact.NotLent op host why) none = tt
rolled-aside rolls (fact.CheckedIn op host conn errored) none = tt
rolled-aside rolls (fact.ConnShut host conn reason) none = tt
rolled-aside rolls (fact.Leased op place lsid true) none = absurd (self-named op (none op))
rolled-aside rolls (fact.Leased op place lsid false) none = tt
rolled-aside rolls (fact.Drew op number) none = tt
rolled-aside rolls (fact.Returned op dirty kept) none = tt
rolled-aside rolls (fact.Asked place request) none = tt
rolled-aside rolls (fact.Ended op end) none = tt
rolled-aside rolls (fact.Time stamp) none = tt
rolled-aside rolls (fact.Finished op outcome) none = tt

pub words-more : (rolls : ℕ → Type 0) (says : Fact → Type 0) (old new : List (Timed Fact)) → ((f : Fact) → says f → IsRolled rolls f) → Tells says old new → AreRolled rolls old → AreRolled rolls new
words-more rolls says old new each tells are =
    subst (AreRolled rolls) (sym tells.facts)
    (All-append (λ (t : Timed Fact). IsRolled rolls t.what) old tells.more are (λ k d l. each _ (tells.each k d l)))

pub words-op : (rolls : ℕ → Type 0) (op : ℕ) (words : Words) (old new : List (Timed Fact)) → AreWords rolls words → Tells (IsBy op words.a words.b (id_of words.c words.d)) old new →
    AreRolled rolls old → AreRolled rolls new
words-op rolls op words old new rolled tells are =
    words-more rolls (IsBy op words.a words.b (id_of words.c words.d)) old new (λ (f : Fact) is_by. rolled-by rolls op words f rolled is_by) tells are

pub words-aside : (rolls : ℕ → Type 0) (old new : List (Timed Fact)) → Tells NamesNone old new → AreRolled rolls old → AreRolled rolls new
words-aside rolls old new tells are = words-more rolls NamesNone old new (λ (f : Fact) none. rolled-aside rolls f none) tells are
