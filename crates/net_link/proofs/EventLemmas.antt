-- What a call adds to a history.
use Rattle.std.proofs.Common.{◌≡◌, Bool, true, false, inl, inr, refl, arith, List, [], ◌∷◌, ◌++◌, ap, sym, ◌∙◌, append_assoc, cond}
use Rattle.std.proofs.lemmas.List.{append-nil}
use Rattle.std.proofs.lemmas.List.Elements.{filter-append, Contains-append_left, Contains-append_right, Contains-append_cases}
use Rattle.std.specs.List.{Contains, filter}
use Rattle.net_link.specs.Events.{is_call, Adds}
use Rattle.net_link.specs.declared.event.NetEvent.{NetEvent}
use Rattle.net_link.proofs.PrefixLemmas.{IsPrefixOf-same, IsPrefixOf-append, IsPrefixOf-trans}

-- A call that notes nothing.
pub Adds-none : (h : List NetEvent) → Adds [] h h
Adds-none h = record { grows = IsPrefixOf-same h; own = sym (append-nil (filter is_call h)) }

-- A call that notes one event of its own.
pub Adds-one : (h : List NetEvent) (e : NetEvent) → is_call e ≡ true → Adds (e ∷ []) h (h ++ e ∷ [])
Adds-one h e own = record {
  grows = IsPrefixOf-append h (e ∷ []);
  own = filter-append is_call h (e ∷ []) ∙ ap (λ b. filter is_call h ++ cond b (e ∷ []) []) own;
}

-- Members that note events where a call notes none.
pub Adds-members : (h ms : List NetEvent) → filter is_call ms ≡ [] → Adds [] h (h ++ ms)
Adds-members h ms none = record {
  grows = IsPrefixOf-append h ms;
  own = filter-append is_call h ms ∙ ap (λ l. filter is_call h ++ l) none;
}

-- One addition behind another.
pub Adds-trans : {a b c xs ys : List NetEvent} → Adds xs a b → Adds ys b c → Adds (xs ++ ys) a c
Adds-trans {a = a} {xs = xs} {ys = ys} p q = record {
  grows = IsPrefixOf-trans p.grows q.grows;
  own = q.own ∙ ap (λ l. l ++ ys) p.own ∙ append_assoc (filter is_call a) xs ys;
}

-- What stands in a filtered list stands in the list.
pub Contains-filter : (p : NetEvent → Bool) (h : List NetEvent) (e : NetEvent) → Contains (filter p h) e → Contains h e
Contains-filter p [] e stands = stands
Contains-filter p (x ∷ h) e stands =
    let tail = Contains-append_right (x ∷ []) h e in
    elim (p x) as (λ b. Contains (cond b (x ∷ filter p h) (filter p h)) e → Contains (x ∷ h) e) [
      | true ↦ λ found. elim (Contains-append_cases (x ∷ []) (filter p h) e found) [
        | inl here ↦ Contains-append_left (x ∷ []) h e here
        | inr later ↦ tail (Contains-filter p h e later)
      ]
      | false ↦ λ found. tail (Contains-filter p h e found)
    ] stands

-- The event that a call adds stands in the history.
pub Contains-Adds : (e : NetEvent) {old new : List NetEvent} → Adds (e ∷ []) old new → Contains new e
Contains-Adds e {old = old} {new = new} adds =
    Contains-filter is_call new e (rw adds.own (Contains-append_right (filter is_call old) (e ∷ []) e (0, omega arith, refl)))
