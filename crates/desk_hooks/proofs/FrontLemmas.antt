-- A desk's trail that is only appended to, and what was told of it.
use Rattle.std.proofs.Common.{◌≡◌, ℕ, List, [], length, take, refl, sym, ap, ◌∙◌, subst}
use Rattle.std.proofs.lemmas.List.{take_at}
use Rattle.entry_judge.specs.declared.timed.Timed.{Timed}
use Rattle.desk_trail.specs.declared.step.Step.{Step}
use Rattle.desk_trail.specs.Clients.{Client}
use Rattle.desk_trail.specs.Facts.{Fact, Lists, facts_of}
use Rattle.desk_trail.specs.Legal.{IsLegal}
use Rattle.desk_trail.specs.Orders.{Extends}
use Rattle.legal_trail.specs.Recorded.{Recorded}
use Rattle.desk_core.specs.Appends.{Appends, IsLonger}
use Rattle.desk_hooks.specs.Telling.{IsFront}

take-longer : {A : Type 0} (xs ys : List A) → IsLonger xs ys → take (length xs) ys ≡ xs
take-longer xs ys longer = ap (take (length xs)) longer.grows ∙ take_at xs longer.more (length xs) refl

pub front-by : {R : Type 0} (moment : ℕ) (old new : Recorded) →
    ((client : Client) (a b : Lists) (steps : List Step) → Extends a b → IsLegal client a steps → facts_of b steps ≡ facts_of a steps) →
    (steps : List Step) → steps ≡ old.steps → IsLegal old.client old.lists old.steps → Appends R moment old new →
    IsFront (facts_of old.lists old.steps) (length steps) new.lists new.steps
front-by {R} moment old new longer steps are legal appends = record {
  was = old.steps;
  added = appends.added;
  grown = appends.steps;
  count = ap length (sym are);
  tells =
      longer old.client old.lists new.lists old.steps
      (record {
        names = take-longer old.lists.names new.lists.names appends.names;
        events = take-longer old.lists.events new.lists.events appends.events;
        sessions = take-longer old.lists.sessions new.lists.sessions appends.sessions;
        requests = take-longer old.lists.requests new.lists.requests appends.requests;
      })
      legal;
}

pub front-begins : (lists : Lists) (steps : List Step) → IsFront [] 0 lists steps
front-begins lists steps = record { was = []; added = steps; grown = refl; count = refl; tells = refl }

pub front-same : (ts : List (Timed Fact)) (behind : ℕ) (a b : Lists) (xs ys : List Step) → b ≡ a → ys ≡ xs → IsFront ts behind a xs → IsFront ts behind b ys
front-same ts behind a b xs ys lists steps front =
    subst (λ (l : Lists). IsFront ts behind l ys) (sym lists) (subst (λ (us : List Step). IsFront ts behind a us) (sym steps) front)
