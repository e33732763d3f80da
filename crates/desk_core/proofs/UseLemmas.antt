-- Lines of streams in some use that go, and what that leaves of the streams of checks.
use Rattle.std.proofs.Common.{◌≡◌, inl, inr, ℕ, List, Option, None, Some, sym, ap, ◌∙◌, subst}
use Rattle.std.proofs.lemmas.Bool.Decides.{eqb_tells}
use Rattle.std.specs.Prelude.{slice_set}
use Rattle.desk_trail.specs.States.{ServerState}
use Rattle.wired_trail.specs.Lines.{KeepsOthers, Lines, line_at}
use Rattle.wired_trail.specs.declared.lines.Line.{Line}
use Rattle.wired_trail.specs.declared.stream_use.StreamUse.{StreamUse}
use Rattle.wired_trail.specs.declared.stream_use.StreamUse.TheVariants as for_use
use Rattle.desk_core.specs.Leaving.{is_of_host}
use Rattle.desk_core.specs.Servers.{AreKeptServers, HasStream, IsKeptServer}
use Rattle.desk_core.specs.Shutting.{KeepsUses, is_of_pool}
use Rattle.desk_core.proofs.ServerLemmas.{at_place, elsewhere, slice_get-set}

pub KeepsUses-same : (Of : StreamUse → Type 0) (old new : Lines) → new ≡ old → KeepsUses Of old new
KeepsUses-same Of old new e = λ stream. inl (ap (λ (l : Lines). line_at l stream) e)

pub KeepsUses-trans : (Of : StreamUse → Type 0) (old between new : Lines) → KeepsUses Of old between → KeepsUses Of between new → KeepsUses Of old new
KeepsUses-trans Of old between new a b = λ stream. elim (a stream) [
  | inl first ↦ elim (b stream) [
    | inl second ↦ inl (second ∙ first)
    | inr gone ↦ inr (gone.0, sym first ∙ gone.1, gone.2)
  ]
  | inr gone ↦ inr gone
]

pub KeepsUses-weaken : (P Q : StreamUse → Type 0) (old new : Lines) → ((u : StreamUse) → P u → Q u) → KeepsUses P old new → KeepsUses Q old new
KeepsUses-weaken P Q old new f k = λ stream. elim (k stream) [ inl same ↦ inl same | inr gone ↦ inr (gone.0, gone.1, f gone.0.is_for gone.2) ]

-- a stream of that use is closed
pub KeepsUses-closed : (Of : StreamUse → Type 0) (old new : Lines) (stream : ℕ) (line : Line) → line_at old stream ≡ Some line → Of line.is_for → KeepsOthers stream old new →
    KeepsUses Of old new
KeepsUses-closed Of old new stream line there of others = λ x. elim (eqb_tells x stream) [
  | inl w ↦ inr (line, ap (line_at old) w.1 ∙ there, of)
  | inr w ↦ inl (others x w.1)
]

-- the stream of a server's checks is of no such use
pub HasStream-uses : (Of : StreamUse → Type 0) (old new : Lines) (x : ℕ) (began o : Option ℕ) → (Of (for_use.Check x) → ⊥) → KeepsUses Of old new → HasStream old x began o →
    HasStream new x began o
HasStream-uses Of old new x began None apart kept h = h
HasStream-uses Of old new x began (Some stream) apart kept h = elim (kept stream) [
  | inl same ↦ (h.0, same ∙ h.1, h.2, h.3)
  | inr gone ↦
      let both : Some gone.0 ≡ Some h.0 = sym gone.1 ∙ h.1 in
      let is : gone.0 ≡ h.0 = (cc) in
      absurd (apart (subst Of (ap (λ (l : Line). l.is_for) is ∙ h.2) gone.2))
]

pub IsKeptServer-uses : (Of : StreamUse → Type 0) (old new : Lines) (n x : ℕ) (s : ServerState) → (Of (for_use.Check x) → ⊥) → KeepsUses Of old new → IsKeptServer old n x s →
    IsKeptServer new n x s
IsKeptServer-uses Of old new n x s apart uses kept = record {
  paid = kept.paid;
  is_open = kept.is_open;
  generation = kept.generation;
  entered = kept.entered;
  checked = HasStream-uses Of old new x s.checks.began s.check_stream apart uses kept.checked;
  paced = kept.paced;
}

apart-of_pool : (host x : ℕ) → is_of_pool host (for_use.Check x) → ⊥
apart-of_pool host x of = let no = of.1 in absurd (cc)

apart-of_host : (host x : ℕ) → (x ≡ host → ⊥) → is_of_host host (for_use.Check x) → ⊥
apart-of_host host x differ (inl same) = differ (cc)
apart-of_host host x differ (inr of) = apart-of_pool host x of

pub HasStream-shut : (host : ℕ) (old new : Lines) (x : ℕ) (began o : Option ℕ) → KeepsUses (is_of_pool host) old new → HasStream old x began o → HasStream new x began o
HasStream-shut host old new x began o uses h = HasStream-uses (is_of_pool host) old new x began o (apart-of_pool host x) uses h

-- connections of a pool are shut
pub AreKeptServers-shut : (old new : Lines) (n host : ℕ) (ss : List ServerState) → KeepsUses (is_of_pool host) old new → AreKeptServers old n ss → AreKeptServers new n ss
AreKeptServers-shut old new n host ss uses kept = λ x s there. IsKeptServer-uses (is_of_pool host) old new n x s (apart-of_pool host x) uses (kept x s there)

-- a server leaves
pub AreKeptServers-left : (old new : Lines) (n host : ℕ) (ss : List ServerState) (t : ServerState) → KeepsUses (is_of_host host) old new → AreKeptServers old n ss →
    IsKeptServer new n host t → AreKeptServers new n (slice_set ss host t)
AreKeptServers-left old new n host ss t uses kept one = λ x s e. elim (slice_get-set ss host t x s e) [
  | at_place i h ↦ subst (λ j. IsKeptServer new n j s) (sym i) (subst (λ u. IsKeptServer new n host u) (sym h) one)
  | elsewhere i h ↦ IsKeptServer-uses (is_of_host host) old new n x s (apart-of_host host x i) uses (kept x s h)
]
