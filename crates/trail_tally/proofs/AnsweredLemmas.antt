-- A command that no entry answers is answered nowhere in what the entries tell.
use Rattle.std.proofs.Common.{◌≡◌, ℕ, ◌==◌, Bool, true, false, List, [], ◌∷◌, Option, None, Some, refl, sym, subst}
use Rattle.std.specs.Prelude.{slice_get, if◌then◌else◌}
use Rattle.std.specs.Option.{option_map}
use Rattle.std.proofs.lemmas.List.Elements.{All-cons, All-nil}
use Rattle.bson_doc.specs.declared.ids.Lsid.{Lsid}
use Rattle.entry_judge.specs.declared.timed.Timed.{Timed}
use Rattle.host_name.specs.Addresses.{Address}
use Rattle.topo_rules.specs.declared.event.TopoEvent.{TopoEvent}
use Rattle.write_retry.specs.declared.outcome.Outcome.{Outcome}
use Rattle.desk_trail.specs.declared.entry.Entry.{Entry}
use Rattle.desk_trail.specs.declared.entry.Entry.TheVariants as entry
use Rattle.desk_trail.specs.declared.request.Request.{Request}
use Rattle.desk_trail.specs.declared.step.Step.{Step}
use Rattle.desk_trail.specs.Facts.{Fact, Lists, fact_of, facts_of, timed_fact}
use Rattle.desk_trail.specs.Facts as fact
use Rattle.trail_laws.specs.Answers.{IsUnanswered, answers}
use Rattle.trail_tally.specs.Tallies.{answer_in, answer_of, first_of}

first-neither : (a b : Option Outcome) → first_of a b ≡ None → (a ≡ None) × (b ≡ None)
first-neither None b e = (refl, e)
first-neither (Some o) b e = absurd (let never : ⊥ = cc in never)

told-as : (op : ℕ) (f g : Fact) → Some g ≡ Some f → answers op g ≡ false → answers op f ≡ false
told-as op f g is not = let same : g ≡ f = cc in subst (λ (h : Fact). answers op h ≡ false) same not

told-at : {A : Type 0} (op : ℕ) (f : Fact) (make : A → Fact) → ((x : A) → answers op (make x) ≡ false) → (o : Option A) → option_map make o ≡ Some f → answers op f ≡ false
told-at op f make not None is = absurd (let never : ⊥ = cc in never)
told-at op f make not (Some x) is = told-as op f (make x) is (not x)

fact-unanswered : (l : Lists) (op : ℕ) (e : Entry) (f : Fact) → answer_in op e ≡ None → fact_of l e ≡ Some f → answers op f ≡ false
fact-unanswered l op (entry.Named host) f none is = told-at op f (λ (a : Address). fact.Named host a) (λ a. refl) (slice_get l.names host) is
fact-unanswered l op (entry.Offered event taken) f none is = told-at op f (λ (e : TopoEvent). fact.Offered event e taken) (λ e. refl) (slice_get l.events event) is
fact-unanswered l op (entry.Leased k session fresh) f none is = told-at op f (λ (id : Lsid). fact.Leased k session id fresh) (λ id. refl) (slice_get l.sessions session) is
fact-unanswered l op (entry.Asked request) f none is = told-at op f (λ (r : Request). fact.Asked request r) (λ r. refl) (slice_get l.requests request) is
fact-unanswered l op (entry.Finished k o) f none is = told-as op f (fact.Finished k o) is (by (k == op) refl none)
  where
    by : (b : Bool) → (k == op) ≡ b → (if b then Some o else None) ≡ None → (k == op) ≡ false
    by true e not = absurd (let never : ⊥ = cc in never)
    by false e not = e
fact-unanswered l op e f none is = told-as op f _ is refl

one-more : (l : Lists) (op : ℕ) (s : Step) (ss : List Step) → answer_in op s.entry ≡ None → IsUnanswered op (facts_of l ss) → (o : Option Fact) → fact_of l s.entry ≡ o →
    IsUnanswered op (facts_of l (s ∷ ss))
one-more l op s ss none rest None e = let same : facts_of l (s ∷ ss) ≡ facts_of l ss = rw e refl in subst (IsUnanswered op) (sym same) rest
one-more l op s ss none rest (Some f) e =
    let t : Timed Fact = record { at = s.moment; what = f } in
    let more : facts_of l (s ∷ ss) ≡ t ∷ facts_of l ss = rw e refl in
    subst (IsUnanswered op) (sym more) (All-cons (λ (x : Timed Fact). answers op x.what ≡ false) t (facts_of l ss) (fact-unanswered l op s.entry f none e) rest)

pub unanswered : (l : Lists) (op : ℕ) (steps : List Step) → answer_of op steps ≡ None → IsUnanswered op (facts_of l steps)
unanswered l op [] none = All-nil (λ (t : Timed Fact). answers op t.what ≡ false)
unanswered l op (s ∷ ss) none =
    let both = first-neither (answer_in op s.entry) (answer_of op ss) none in
    one-more l op s ss both.0 (unanswered l op ss both.1) (fact_of l s.entry) refl
