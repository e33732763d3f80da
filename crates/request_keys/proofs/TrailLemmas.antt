-- What each entry of a legal trail keeps.
use Rattle.std.proofs.Common.{◌≡◌, ℕ, List, [], ◌∷◌, ◌++◌, Some, sym, ap, ◌∙◌, subst}
use Rattle.std.specs.Prelude.{slice_get}
use Rattle.std.proofs.lemmas.List.{append-nil, append_assoc}
use Rattle.entry_judge.specs.LegalLaws.{Legal-front, Legal-rest, state_after-append}
use Rattle.entry_judge.specs.declared.timed.Timed.{Timed}
use Rattle.desk_trail.specs.Clients.{Client}
use Rattle.desk_trail.specs.Facts.{Fact}
use Rattle.desk_trail.specs.Legal.{AreLegal, Point, StandsAt, beginning, point_after, point_behind}
use Rattle.desk_trail.specs.States.{CommandState}
use Rattle.request_keys.proofs.ChangeLemmas.{moves, moves-get}
use Rattle.request_keys.proofs.ListLemmas.{map-was}

-- a legal front with the entry behind it
pub record Further (client : Client) (xs : List (Timed Fact)) (t : Timed Fact) : Type 0 where
  pub front : AreLegal client xs
  pub stands : StandsAt client (point_behind client xs) t
  pub to : point_behind client (xs ++ t ∷ []) ≡ point_after client (point_behind client xs) t

pub front-legal : (client : Client) (xs ys : List (Timed Fact)) → AreLegal client (xs ++ ys) → AreLegal client xs
front-legal client xs ys l = Legal-front (StandsAt client) (point_after client) (beginning client) xs ys l

pub further : (client : Client) (xs : List (Timed Fact)) (t : Timed Fact) (ys : List (Timed Fact)) → AreLegal client (xs ++ t ∷ ys) → Further client xs t
further client xs t ys l = record {
  front = front-legal client xs (t ∷ ys) l;
  stands = (Legal-rest (StandsAt client) (point_after client) (beginning client) xs (t ∷ ys) l).0;
  to = state_after-append (point_after client) (beginning client) xs (t ∷ []);
}

-- from a front on
pub along : (client : Client) (Q : List (Timed Fact) → Type 0) → ((xs : List (Timed Fact)) (t : Timed Fact) → Further client xs t → Q xs → Q (xs ++ t ∷ [])) →
    (xs ys : List (Timed Fact)) → AreLegal client (xs ++ ys) → Q xs → Q (xs ++ ys)
along client Q each xs [] l h = subst Q (sym (append-nil xs)) h
along client Q each xs (y ∷ ys) l h =
    let e : (xs ++ y ∷ []) ++ ys ≡ xs ++ y ∷ ys = append_assoc xs (y ∷ []) ys in
    subst Q e (along client Q each (xs ++ y ∷ []) ys (subst (AreLegal client) (sym e) l) (each xs y (further client xs y ys l) h))

-- what the command was ahead of the entry
pub record Was (client : Client) (xs : List (Timed Fact)) (t : Timed Fact) (op : ℕ) (d : CommandState) : Type 0 where
  pub command : CommandState
  pub there : slice_get (point_behind client xs).state.commands op ≡ Some command
  pub is : d ≡ moves client t.at (point_behind client xs).state t.what op command

pub was : (client : Client) (xs : List (Timed Fact)) (t : Timed Fact) (op : ℕ) (d : CommandState) → Further client xs t →
    slice_get (point_behind client (xs ++ t ∷ [])).state.commands op ≡ Some d → Was client xs t op d
was client xs t op d f there =
    let w = (point_behind client xs).state in
    let now = sym (moves-get client t.at w t.what op) ∙ ap (λ (q : Point). slice_get q.state.commands op) (sym f.to) ∙ there in
    let m = map-was (moves client t.at w t.what op) (slice_get w.commands op) d now in
    record { command = m.0; there = m.1; is = m.2 }
