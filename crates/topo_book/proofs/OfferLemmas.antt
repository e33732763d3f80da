-- One more offer, behind a list of them.
use Rattle.std.proofs.Common.{◌≡◌, ℕ, Bool, true, false, cond, List, [], ◌∷◌, ◌++◌, refl, sym, ap, ◌∙◌}
use Rattle.topo_rules.specs.declared.event.TopoEvent.{TopoEvent}
use Rattle.topo_rules.specs.declared.topology.Topology.{Topology}
use Rattle.topo_rules.specs.Rules.{after}
use Rattle.topo_book.specs.Books.{folded, behind, answers, accepted}
use Rattle.topo_book.specs.Fresh.{taken, is_accepted_verdict}

-- what the accepted events make of the topology: the first offer, and then the rest
folded-accepted : (t : Topology) (o : TopoEvent × ℕ) (os : List (TopoEvent × ℕ)) → folded t (accepted t (o ∷ os)) ≡ folded (behind t o.0 o.1) (accepted (behind t o.0 o.1) os)
folded-accepted t o os = by (is_accepted_verdict (taken t.servers o.0 o.1))
  where
    by : (b : Bool) → folded t (cond b (o.0 ∷ accepted (cond b (after t o.0) t) os) (accepted (cond b (after t o.0) t) os)) ≡ folded (cond b (after t o.0) t) (accepted (cond b (after t o.0) t) os)
    by true = refl
    by false = refl

pub answers-push : (t : Topology) (offers : List (TopoEvent × ℕ)) (event : TopoEvent) (pool : ℕ) → answers t (offers ++ (event, pool) ∷ []) ≡ answers t offers ++ taken (folded t (accepted t offers)).servers event pool ∷ []
answers-push t [] event pool = refl
answers-push t (o ∷ os) event pool =
    ap (λ vs. taken t.servers o.0 o.1 ∷ vs) (answers-push (behind t o.0 o.1) os event pool)
    ∙ ap (λ (u : Topology). taken t.servers o.0 o.1 ∷ (answers (behind t o.0 o.1) os ++ taken u.servers event pool ∷ [])) (sym (folded-accepted t o os))

pub accepted-push : (t : Topology) (offers : List (TopoEvent × ℕ)) (event : TopoEvent) (pool : ℕ)
    → accepted t (offers ++ (event, pool) ∷ []) ≡ cond (is_accepted_verdict (taken (folded t (accepted t offers)).servers event pool)) (accepted t offers ++ event ∷ []) (accepted t offers)
accepted-push t [] event pool = refl
accepted-push t (o ∷ os) event pool =
    ap (λ es. cond first (o.0 ∷ es) es) (accepted-push (behind t o.0 o.1) os event pool)
    ∙ out first (is_accepted_verdict (taken (folded (behind t o.0 o.1) (accepted (behind t o.0 o.1) os)).servers event pool))
    ∙ ap (λ (u : Topology). cond (is_accepted_verdict (taken u.servers event pool)) (cond first (o.0 ∷ rest) rest ++ event ∷ []) (cond first (o.0 ∷ rest) rest)) (sym (folded-accepted t o os))
  where
    first : Bool
    first = is_accepted_verdict (taken t.servers o.0 o.1)

    rest : List TopoEvent
    rest = accepted (behind t o.0 o.1) os

    out : (b c : Bool) → cond b (o.0 ∷ cond c (rest ++ event ∷ []) rest) (cond c (rest ++ event ∷ []) rest) ≡ cond c (cond b (o.0 ∷ rest) rest ++ event ∷ []) (cond b (o.0 ∷ rest) rest)
    out true true = refl
    out true false = refl
    out false true = refl
    out false false = refl
