-- What a trail tells, entry by entry.
use Rattle.std.proofs.Common.{◌≡◌, ◌<◌, ℕ, zero, suc, ◌+◌, Bool, true, false, ◌&&◌, List, [], ◌∷◌, ◌++◌, length, take, drop, get_or, Option, None, Some, refl, sym, ap, ◌∙◌, subst, append_assoc, arith}
use Rattle.std.specs.Prelude.{is_some, option_to_list, slice_get, unwrap_or}
use Rattle.std.specs.List.{list_all}
use Rattle.std.proofs.Math.Dec.{eqb-suc-zero}
use Rattle.std.proofs.lemmas.List.{append-nil, take-append-drop, take_at, take_more}
use Rattle.std.proofs.lemmas.List.Elements.{filter_map-append}
use Rattle.std.proofs.lemmas.List.Folds.{list_all-append, list_all_more}
use Rattle.entry_judge.specs.declared.timed.Timed.{Timed}
use Rattle.desk_trail.specs.declared.entry.Entry.{Entry}
use Rattle.desk_trail.specs.declared.entry.Entry.TheVariants as entry
use Rattle.desk_trail.specs.declared.step.Step.{Step}
use Rattle.desk_trail.specs.Facts.{ArePlaced, Fact, Lists, fact_of, facts_of, timed_fact}
use Rattle.desk_trail.specs.Facts as fact
use Rattle.drv_events.specs.declared.event.Event.{Event}
use Rattle.trail_events.specs.Telling.{begun}
use Rattle.trail_events.specs.Told.{is_ready, ready_by, tells, told, was_ready}
use Rattle.trail_events.proofs.ToldLemmas.{at-none, as-none, is_ready-more, told-more}
use Rattle.desk_hooks.specs.Telling.{IsFront, opening, ready_behind}

-- ---- The entry at a place

and-left : (a b : Bool) → (a && b) ≡ true → a ≡ true
and-left true b h = refl
and-left false b h = h

and-right : (a b : Bool) → (a && b) ≡ true → b ≡ true
and-right true b h = h
and-right false b h = absurd (let never : ⊥ = cc in never)

placed-at : (l : Lists) (steps : List Step) (place : ℕ) (d : Step) → place < length steps → ArePlaced l steps → is_some (timed_fact l (get_or steps place d)) ≡ true
placed-at l steps place d lt placed =
    let p = λ (s : Step). is_some (timed_fact l s) in
    let front : list_all p (take (place + 1) steps) ≡ true =
    and-left (list_all p (take (place + 1) steps)) (list_all p (drop (place + 1) steps))
    (sym (list_all-append p (take (place + 1) steps) (drop (place + 1) steps)) ∙ ap (list_all p) (take-append-drop (place + 1) steps) ∙ placed) in
    and-right (list_all p (take place steps)) (p (get_or steps place d)) (sym (list_all_more p steps place d lt) ∙ front)

facts-next : (l : Lists) (steps : List Step) (place : ℕ) (s : Step) (ts : List (Timed Fact)) → place < length steps → s ≡ get_or steps place s → facts_of l (s ∷ []) ≡ ts →
    facts_of l (take (place + 1) steps) ≡ facts_of l (take place steps) ++ ts
facts-next l steps place s ts lt there is =
    ap (facts_of l) (take_more steps place s lt ∙ ap (λ (x : Step). take place steps ++ x ∷ []) (sym there))
    ∙ filter_map-append (timed_fact l) (take place steps) (s ∷ []) ∙ ap (λ (xs : List (Timed Fact)). facts_of l (take place steps) ++ xs) is

-- ---- Whether a pool is ready

ready-by : (l : Lists) (steps : List Step) (place host : ℕ) (s : Step) (said : Option Bool) → place < length steps → s ≡ get_or steps place s →
    ((was : Bool) → unwrap_or said was ≡ ready_behind l host was s.entry) → (o : Option Fact) → fact_of l s.entry ≡ o →
    is_ready host (facts_of l (take (place + 1) steps)) ≡ unwrap_or said (is_ready host (facts_of l (take place steps)))
ready-by l steps place host s said lt there says None e =
    let ahead = facts_of l (take place steps) in
    let nothing : facts_of l (s ∷ []) ≡ [] = rw e refl in
    let same : ready_behind l host (is_ready host ahead) s.entry ≡ is_ready host ahead = rw e refl in
    ap (is_ready host) (facts-next l steps place s [] lt there nothing ∙ append-nil ahead) ∙ sym (says (is_ready host ahead) ∙ same)
ready-by l steps place host s said lt there says (Some f) e =
    let ahead = facts_of l (take place steps) in
    let t : Timed Fact = record { at = s.moment; what = f } in
    let one : facts_of l (s ∷ []) ≡ t ∷ [] = rw e refl in
    let by_it : ready_behind l host (is_ready host ahead) s.entry ≡ ready_by host (is_ready host ahead) f = rw e refl in
    ap (is_ready host) (facts-next l steps place s (t ∷ []) lt there one) ∙ is_ready-more host ahead t ∙ sym (says (is_ready host ahead) ∙ by_it)

pub ready-next : (l : Lists) (steps : List Step) (place host : ℕ) (s : Step) (said : Option Bool) → place < length steps → s ≡ get_or steps place s →
    ((was : Bool) → unwrap_or said was ≡ ready_behind l host was s.entry) →
    is_ready host (facts_of l (take (place + 1) steps)) ≡ unwrap_or said (is_ready host (facts_of l (take place steps)))
ready-next l steps place host s said lt there says = ready-by l steps place host s said lt there says (fact_of l s.entry) refl

-- ---- What an entry tells

told-by : (l : Lists) (steps : List Step) (place : ℕ) (s : Step) (w : Bool) (es : List Event) → place < length steps → s ≡ get_or steps place s → is_some (timed_fact l s) ≡ true →
    ((f : Fact) → fact_of l s.entry ≡ Some f → w ≡ was_ready (facts_of l (take place steps)) f) → ((f : Fact) → fact_of l s.entry ≡ Some f → es ≡ tells w f) →
    (o : Option Fact) → fact_of l s.entry ≡ o → told (facts_of l (take (place + 1) steps)) ≡ begun (told (facts_of l (take place steps))) ++ es
told-by l steps place s w es lt there placed was tell None e = absurd (let none : is_some (timed_fact l s) ≡ false = rw e refl in let never : ⊥ = cc in never)
told-by l steps place s w es lt there placed was tell (Some f) e =
    let ahead = facts_of l (take place steps) in
    let t : Timed Fact = record { at = s.moment; what = f } in
    let one : facts_of l (s ∷ []) ≡ t ∷ [] = rw e refl in
    ap told (facts-next l steps place s (t ∷ []) lt there one) ∙ told-more ahead t
    ∙ ap (λ (xs : List Event). begun (told ahead) ++ xs) (sym (tell f e ∙ ap (λ (b : Bool). tells b f) (was f e)))

pub told-next : (l : Lists) (steps : List Step) (place : ℕ) (s : Step) (w : Bool) (es : List Event) → place < length steps → s ≡ get_or steps place s → ArePlaced l steps →
    ((f : Fact) → fact_of l s.entry ≡ Some f → w ≡ was_ready (facts_of l (take place steps)) f) → ((f : Fact) → fact_of l s.entry ≡ Some f → es ≡ tells w f) →
    told (facts_of l (take (place + 1) steps)) ≡ begun (told (facts_of l (take place steps))) ++ es
told-next l steps place s w es lt there placed was tell =
    let here = subst (λ (x : Step). is_some (timed_fact l x) ≡ true) (sym there) (placed-at l steps place s lt placed) in
    told-by l steps place s w es lt there here was tell (fact_of l s.entry) refl

-- ---- What is told ahead of it

opened-by : (l : Lists) (s : Step) (ss : List Step) (o : Option Fact) → fact_of l s.entry ≡ o → is_some (timed_fact l s) ≡ true →
    begun (told (facts_of l (s ∷ ss))) ≡ told (facts_of l (s ∷ ss)) ++ []
opened-by l s ss None e is = absurd (let none : is_some (timed_fact l s) ≡ false = rw e refl in let never : ⊥ = cc in never)
opened-by l s ss (Some f) e is =
    let t : Timed Fact = record { at = s.moment; what = f } in
    rw e (sym (append-nil (told (t ∷ facts_of l ss))))

opened : (l : Lists) (steps : List Step) (place : ℕ) → place < length steps → ArePlaced l steps →
    begun (told (facts_of l (take place steps))) ≡ told (facts_of l (take place steps)) ++ option_to_list (opening place)
opened l steps zero lt placed = refl
opened l [] (suc k) lt placed = absurd (omega arith)
opened l (s ∷ ss) (suc k) lt placed =
    let behind : opening (suc k) ≡ None = rw (eqb-suc-zero k) refl in
    opened-by l s (take k ss) (fact_of l s.entry) refl (and-left (is_some (timed_fact l s)) (list_all (λ (x : Step). is_some (timed_fact l x)) ss) placed)
    ∙ ap (λ (o : Option Event). told (facts_of l (s ∷ take k ss)) ++ option_to_list o) (sym behind)

pub told-step : (l : Lists) (steps : List Step) (place : ℕ) (es : List Event) → place < length steps → ArePlaced l steps →
    told (facts_of l (take (place + 1) steps)) ≡ begun (told (facts_of l (take place steps))) ++ es →
    told (facts_of l (take (place + 1) steps)) ≡ told (facts_of l (take place steps)) ++ (option_to_list (opening place) ++ es)
told-step l steps place es lt placed is =
    is ∙ ap (λ (xs : List Event). xs ++ es) (opened l steps place lt placed) ∙ append_assoc (told (facts_of l (take place steps))) (option_to_list (opening place)) es

-- ---- What was told before

pub front-told : (ts : List (Timed Fact)) (behind : ℕ) (l : Lists) (steps : List Step) → IsFront ts behind l steps → facts_of l (take behind steps) ≡ ts
front-told ts behind l steps front =
    ap (facts_of l) (ap (take behind) front.grown ∙ take_at front.was front.added behind front.count) ∙ front.tells

-- ---- An entry that clears no pool

pub not-clear : (l : Lists) (ts : List (Timed Fact)) (e : Entry) (f : Fact) → ((host : ℕ) → e ≡ entry.PoolClear host → ⊥) → fact_of l e ≡ Some f → false ≡ was_ready ts f
not-clear l ts (entry.PoolClear host) f differs is = absurd (differs host refl)
not-clear l ts (entry.Named host) f differs is = at-none ts f (λ x. fact.Named host x) (λ x. refl) (slice_get l.names host) is
not-clear l ts (entry.Offered place taken) f differs is = at-none ts f (λ x. fact.Offered place x taken) (λ x. refl) (slice_get l.events place) is
not-clear l ts (entry.Leased op place fresh) f differs is = at-none ts f (λ x. fact.Leased op place x fresh) (λ x. refl) (slice_get l.sessions place) is
not-clear l ts (entry.Asked place) f differs is = at-none ts f (λ x. fact.Asked place x) (λ x. refl) (slice_get l.requests place) is
not-clear l ts e f differs is = as-none ts f _ refl is
