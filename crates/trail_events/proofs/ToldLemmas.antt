-- What entries tell, with one more behind them.
use Rattle.std.proofs.Common.{◌≡◌, ℕ, Bool, true, false, List, [], ◌∷◌, ◌++◌, Option, None, Some, refl, sym, ap, ◌∙◌, subst, append_assoc}
use Rattle.std.specs.Prelude.{is_some, slice_get}
use Rattle.std.specs.Option.{option_map}
use Rattle.std.proofs.lemmas.List.{append-nil}
use Rattle.std.proofs.lemmas.List.Elements.{filter_map-append}
use Rattle.std.proofs.lemmas.List.Sums.{fold-append}
use Rattle.drv_events.specs.declared.event.Event.{Event}
use Rattle.drv_events.specs.declared.event.Event.TheVariants as event
use Rattle.entry_judge.specs.declared.timed.Timed.{Timed}
use Rattle.desk_trail.specs.declared.entry.Entry.{Entry}
use Rattle.desk_trail.specs.declared.entry.Entry.TheVariants as entry
use Rattle.desk_trail.specs.declared.step.Step.{Step}
use Rattle.desk_trail.specs.Facts.{Fact, Lists, fact_of, facts_of, timed_fact}
use Rattle.desk_trail.specs.Facts as fact
use Rattle.trail_events.specs.Telling.{IsTelling, NotesPool, begun, ready_at, ready_there}
use Rattle.trail_events.specs.Told.{is_ready, ready_by, tells, told, told_behind, was_ready}
use Rattle.trail_events.specs.declared.telling.Telling.{Telling}

-- ---- The events

behind-more : (ahead ts : List (Timed Fact)) (t : Timed Fact) →
    told_behind ahead (ts ++ t ∷ []) ≡ told_behind ahead ts ++ tells (was_ready (ahead ++ ts) t.what) t.what
behind-more ahead [] t =
    append-nil (tells (was_ready ahead t.what) t.what) ∙ ap (λ (xs : List (Timed Fact)). tells (was_ready xs t.what) t.what) (sym (append-nil ahead))
behind-more ahead (s ∷ ss) t =
    let here = tells (was_ready ahead s.what) s.what in
    let rest = told_behind (ahead ++ s ∷ []) ss in
    ap (λ (es : List Event). here ++ es) (behind-more (ahead ++ s ∷ []) ss t)
    ∙ sym (append_assoc here rest (tells (was_ready ((ahead ++ s ∷ []) ++ ss) t.what) t.what))
    ∙ ap (λ (xs : List (Timed Fact)). (here ++ rest) ++ tells (was_ready xs t.what) t.what) (append_assoc ahead (s ∷ []) ss)

pub told-more : (ts : List (Timed Fact)) (t : Timed Fact) → told (ts ++ t ∷ []) ≡ begun (told ts) ++ tells (was_ready ts t.what) t.what
told-more [] t = ap (λ (es : List Event). event.TopologyOpened ∷ es) (behind-more [] [] t)
told-more (s ∷ ss) t = ap (λ (es : List Event). event.TopologyOpened ∷ es) (behind-more [] (s ∷ ss) t)

-- ---- The pools that are ready

pub is_ready-more : (host : ℕ) (ts : List (Timed Fact)) (t : Timed Fact) → is_ready host (ts ++ t ∷ []) ≡ ready_by host (is_ready host ts) t.what
is_ready-more host ts t = fold-append (λ (ready : Bool) (x : Timed Fact). ready_by host ready x.what) false ts (t ∷ [])

-- What is kept of the pool that an entry clears is whether it was ready.
pub as-none : (ts : List (Timed Fact)) (f g : Fact) → was_ready ts g ≡ false → Some g ≡ Some f → false ≡ was_ready ts f
as-none ts f g none is = let same : g ≡ f = cc in subst (λ (h : Fact). false ≡ was_ready ts h) same (sym none)

pub at-none : {A : Type 0} (ts : List (Timed Fact)) (f : Fact) (make : A → Fact) → ((x : A) → was_ready ts (make x) ≡ false) → (o : Option A) → option_map make o ≡ Some f →
    false ≡ was_ready ts f
at-none ts f make none None is = absurd (let never : ⊥ = cc in never)
at-none ts f make none (Some x) is = as-none ts f (make x) (none x) is

there-was : (l : Lists) (ready : List Bool) (ts : List (Timed Fact)) → ((host : ℕ) → ready_at ready host ≡ is_ready host ts) → (e : Entry) (f : Fact) → fact_of l e ≡ Some f →
    ready_there ready e ≡ was_ready ts f
there-was l ready ts are (entry.PoolClear host) f is =
    let same : fact.PoolClear host ≡ f = cc in subst (λ (g : Fact). ready_at ready host ≡ was_ready ts g) same (are host)
there-was l ready ts are (entry.Named host) f is = at-none ts f (λ x. fact.Named host x) (λ x. refl) (slice_get l.names host) is
there-was l ready ts are (entry.Offered place taken) f is = at-none ts f (λ x. fact.Offered place x taken) (λ x. refl) (slice_get l.events place) is
there-was l ready ts are (entry.Leased op place fresh) f is = at-none ts f (λ x. fact.Leased op place x fresh) (λ x. refl) (slice_get l.sessions place) is
there-was l ready ts are (entry.Asked place) f is = at-none ts f (λ x. fact.Asked place x) (λ x. refl) (slice_get l.requests place) is
there-was l ready ts are e f is = as-none ts f _ refl is

-- ---- Both

pub telling-more : (l : Lists) (e : Entry) (ts : List (Timed Fact)) (t : Timed Fact) (w : Bool) (begins : List Event) (old new : Telling) → fact_of l e ≡ Some t.what →
    IsTelling ts old → begins ≡ begun old.events → w ≡ ready_there old.ready.items e → new.events ≡ begins ++ tells w t.what → NotesPool t.what old.ready.items new.ready.items →
    IsTelling (ts ++ t ∷ []) new
telling-more l e ts t w begins old new is was began there told_now notes = record {
  events =
      told_now ∙ ap (λ (es : List Event). es ++ tells w t.what) (began ∙ ap begun was.events)
      ∙ ap (λ (b : Bool). begun (told ts) ++ tells b t.what) (there ∙ there-was l old.ready.items ts was.ready e t.what is) ∙ sym (told-more ts t);
  ready = λ host. notes host ∙ ap (λ (b : Bool). ready_by host b t.what) (was.ready host) ∙ sym (is_ready-more host ts t);
}

-- ---- What a step says

facts-one : (l : Lists) (steps : List Step) (s : Step) (ts : List (Timed Fact)) → facts_of l (s ∷ []) ≡ ts → facts_of l (steps ++ s ∷ []) ≡ facts_of l steps ++ ts
facts-one l steps s ts e = filter_map-append (timed_fact l) steps (s ∷ []) ∙ ap (λ (xs : List (Timed Fact)). facts_of l steps ++ xs) e

-- A step whose place is empty leaves what is told.
pub step-none : (l : Lists) (steps : List Step) (s : Step) (t : Telling) → (o : Option Fact) → fact_of l s.entry ≡ o → is_some o ≡ false → IsTelling (facts_of l steps) t →
    IsTelling (facts_of l (steps ++ s ∷ [])) t
step-none l steps s t None e none was = subst (λ (ts : List (Timed Fact)). IsTelling ts t) (sym (facts-one l steps s [] (rw e refl) ∙ append-nil (facts_of l steps))) was
step-none l steps s t (Some f) e none was = absurd (let never : ⊥ = cc in never)

-- Any other is told as what it says.
pub step-some : (l : Lists) (steps : List Step) (s : Step) (old new : Telling) → (o : Option Fact) → fact_of l s.entry ≡ o → is_some o ≡ true →
    ((ts : List (Timed Fact)) (t : Timed Fact) → fact_of l s.entry ≡ Some t.what → IsTelling ts old → IsTelling (ts ++ t ∷ []) new) → IsTelling (facts_of l steps) old →
    IsTelling (facts_of l (steps ++ s ∷ [])) new
step-some l steps s old new None e there more was = absurd (let never : ⊥ = cc in never)
step-some l steps s old new (Some f) e there more was =
    let t : Timed Fact = record { at = s.moment; what = f } in
    subst (λ (ts : List (Timed Fact)). IsTelling ts new) (sym (facts-one l steps s (t ∷ []) (rw e refl))) (more (facts_of l steps) t e was)
