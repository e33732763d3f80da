-- What a stream's view gained between two histories.
use Rattle.std.proofs.Common.{◌≡◌, ℕ, true, false, List, [], ◌∷◌, ◌++◌, ◌||◌, drop, length, refl, sym, ap, ◌∙◌, cond, append_assoc, append-nil, eqb}
use Rattle.std.proofs.Math.Bool.{or-true}
use Rattle.std.proofs.Math.Seq.{drop-append_seam}
use Rattle.std.proofs.lemmas.List.{append_cancel_left}
use Rattle.std.proofs.lemmas.List.Elements.{filter-append}
use Rattle.std.proofs.lemmas.List.Sums.{fold-append}
use Rattle.std.specs.List.{filter, fold}
use Rattle.net_link.specs.Events.{Adds, is_at, is_call}
use Rattle.net_link.specs.Prefix.{IsPrefixOf}
use Rattle.net_link.specs.Seen.{Joins, SaidNotYet, Seen, after, gained, seen, unseen, with_event}
use Rattle.net_link.specs.declared.event.NetEvent.{NetEvent}
use Rattle.net_link.specs.declared.event.NetEvent.TheVariants as event
use Rattle.net_link.proofs.PrefixLemmas.{IsPrefixOf-trans}
use Rattle.net_link.proofs.SeenLemmas.{fold-after-filter}

-- What stands behind the older history.
behind-prefix : {old new : List NetEvent} (grows : IsPrefixOf old new) → drop (length old) new ≡ grows.more
behind-prefix {old = old} grows = ap (drop (length old)) (sym grows.joined) ∙ drop-append_seam old grows.more

calls-behind : {events old new : List NetEvent} (adds : Adds events old new) → filter is_call adds.grows.more ≡ events
calls-behind {events = events} {old = old} adds =
    append_cancel_left (filter is_call old) (filter is_call adds.grows.more) events
    (sym (filter-append is_call old adds.grows.more) ∙ ap (filter is_call) adds.grows.joined ∙ adds.own)

-- Behind a call the view gained what its own events say.
pub gained-Adds : (s : ℕ) {events old new : List NetEvent} → Adds events old new → gained s old new ≡ seen s events
unfolding gained seen
gained-Adds s adds =
    ap (fold (after s) unseen) (behind-prefix adds.grows) ∙ fold-after-filter s adds.grows.more unseen ∙ ap (fold (after s) unseen) (calls-behind adds)

pub gained-events : (s : ℕ) {events old new : List NetEvent} → Adds events old new → gained s old new ≡ fold (after s) unseen events
unfolding gained seen
gained-events s adds = gained-Adds s adds

-- One call more.
pub gained-more : (s : ℕ) {events a b c : List NetEvent} → IsPrefixOf a b → Adds events b c → gained s a c ≡ fold (after s) (gained s a b) events
unfolding gained seen
gained-more s {events = events} {a = a} {b = b} {c = c} p q =
    let whole : c ≡ a ++ (p.more ++ q.grows.more)
    = sym q.grows.joined ∙ ap (λ (l : List NetEvent). l ++ q.grows.more) (sym p.joined) ∙ append_assoc a p.more q.grows.more in
    ap (fold (after s) unseen) (ap (drop (length a)) whole ∙ drop-append_seam a (p.more ++ q.grows.more))
    ∙ fold-append (after s) unseen p.more q.grows.more
    ∙ fold-after-filter s q.grows.more (fold (after s) unseen p.more)
    ∙ ap (fold (after s) (fold (after s) unseen p.more)) (calls-behind q)
    ∙ ap (λ v. fold (after s) v events) (ap (fold (after s) unseen) (sym (behind-prefix p)))

pub Joins-unseen : (v : Seen) → Joins v unseen v
Joins-unseen v = record {
  out = sym (append-nil v.out);
  came = sym (append-nil v.came);
  ended = elim v.ended as (λ b. b ≡ (b || false)) [ true ↦ refl | false ↦ refl ];
  fault = elim v.fault as (λ b. b ≡ (b || false)) [ true ↦ refl | false ↦ refl ];
  waits = λ e. cc;
}

Joins-event : (v g w : Seen) (e : NetEvent) → Joins v g w → Joins v (with_event g e) (with_event w e)
Joins-event v g w (event.Out t bytes) p = record { out = ap (λ l. l ++ bytes) p.out ∙ append_assoc v.out g.out bytes; came = p.came; ended = p.ended; fault = p.fault; waits = λ e. cc }
Joins-event v g w (event.Came t bytes) p = record { out = p.out; came = ap (λ l. l ++ bytes) p.came ∙ append_assoc v.came g.came bytes; ended = p.ended; fault = p.fault; waits = λ e. cc }
Joins-event v g w (event.Ended t) p = record { out = p.out; came = p.came; ended = sym (or-true v.ended); fault = p.fault; waits = p.waits }
Joins-event v g w (event.Fault t) p = record { out = p.out; came = p.came; ended = p.ended; fault = sym (or-true v.fault); waits = p.waits }
Joins-event v g w (event.Dry t) p = record { out = p.out; came = p.came; ended = p.ended; fault = p.fault; waits = λ _. refl }
Joins-event v g w (event.Full t) p = record { out = p.out; came = p.came; ended = p.ended; fault = p.fault; waits = λ _. refl }
Joins-event v g w (event.Dialled t a) p = p
Joins-event v g w (event.NoDial a) p = p
Joins-event v g w (event.Closed t) p = p
Joins-event v g w (event.Handled m t n f) p = p
Joins-event v g w (event.Elected m) p = p
Joins-event v g w (event.Followed m) p = p

Joins-after : (s : ℕ) (v g w : Seen) (e : NetEvent) → Joins v g w → Joins v (after s g e) (after s w e)
Joins-after s v g w e p = elim (is_at e s) as (λ b. Joins v (cond b (with_event g e) g) (cond b (with_event w e) w)) [ true ↦ Joins-event v g w e p | false ↦ p ]

Joins-fold : (s : ℕ) (v g w : Seen) (events : List NetEvent) → Joins v g w → Joins v (fold (after s) g events) (fold (after s) w events)
Joins-fold s v g w [] p = p
Joins-fold s v g w (e ∷ events) p = Joins-fold s v (after s g e) (after s w e) events (Joins-after s v g w e p)

-- What was seen, and what was gained since, is what is seen.
pub gained-joins : (s : ℕ) (old new : List NetEvent) → IsPrefixOf old new → Joins (seen s old) (gained s old new) (seen s new)
unfolding gained seen
gained-joins s old new grows =
    let joined : fold (after s) unseen new ≡ fold (after s) (fold (after s) unseen old) grows.more
    = ap (fold (after s) unseen) (sym grows.joined) ∙ fold-append (after s) unseen old grows.more in
    rw (behind-prefix grows, joined) (Joins-fold s (fold (after s) unseen old) unseen (fold (after s) unseen old) grows.more (Joins-unseen (fold (after s) unseen old)))

-- By what the calls' own events say.
pub SaidNotYet-Adds : (s : ℕ) {events old new : List NetEvent} → Adds events old new → (seen s events).waits ≡ true → SaidNotYet s old new
SaidNotYet-Adds s adds last = record { grows = adds.grows; last = ap (λ v. v.waits) (gained-Adds s adds) ∙ last }

-- Nothing has come, or gone, since.
pub SaidNotYet-waits : (s : ℕ) (old new : List NetEvent) → SaidNotYet s old new → (seen s new).waits ≡ true
SaidNotYet-waits s old new said = (gained-joins s old new said.grows).waits said.last

-- A close behind it changes nothing.
pub SaidNotYet-closed : (s t : ℕ) {a b c : List NetEvent} → SaidNotYet s a b → Adds (event.Closed t ∷ []) b c → SaidNotYet s a c
SaidNotYet-closed s t {a = a} {b = b} said adds = record {
  grows = IsPrefixOf-trans said.grows adds.grows;
  last =
      ap (λ v. v.waits) (gained-more s said.grows adds)
      ∙ elim (eqb t s) as (λ d. (cond d (gained s a b) (gained s a b)).waits ≡ (gained s a b).waits) [ true ↦ refl | false ↦ refl ]
      ∙ said.last;
}
