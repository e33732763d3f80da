-- A legal trail with one more entry, and with lists that are longer by one.
use Rattle.std.proofs.Common.{◌≡◌, ℕ, true, ◌&&◌, List, [], ◌∷◌, ◌++◌, length, take, Some, refl, sym, ap, ◌∙◌, subst}
use Rattle.std.specs.Prelude.{slice_get, is_some}
use Rattle.std.specs.List.{list_all}
use Rattle.std.specs.Option.{option_map}
use Rattle.std.proofs.lemmas.List.Elements.{filter_map-append}
use Rattle.std.proofs.lemmas.List.Folds.{list_all-append}
use Rattle.std.proofs.Math.Seq.{take-append_seam}
use Rattle.entry_judge.specs.declared.timed.Timed.{Timed}
use Rattle.entry_judge.specs.LegalLaws.{Legal-append, state_after-append}
use Rattle.bson_doc.specs.declared.ids.Lsid.{Lsid}
use Rattle.host_name.specs.Addresses.{Address}
use Rattle.topo_rules.specs.declared.event.TopoEvent.{TopoEvent}
use Rattle.desk_trail.specs.declared.entry.Entry.{Entry}
use Rattle.desk_trail.specs.declared.request.Request.{Request}
use Rattle.desk_trail.specs.declared.room.Room.{Room}
use Rattle.desk_trail.specs.declared.step.Step.{Step}
use Rattle.desk_trail.specs.Clients.{Client}
use Rattle.desk_trail.specs.Facts.{Fact, Lists, fact_of, facts_of, timed_fact}
use Rattle.desk_trail.specs.Legal.{AreLegal, IsLegal, StandsAt, beginning, point_after, point_behind}
use Rattle.desk_trail.specs.Orders.{Extends}
use Rattle.desk_trail.specs.Written.{IsUsed, Written, step_of, with_entry}
use Rattle.legal_trail.specs.Recorded.{Adds, recorded}

-- ---- What the entries tell, with one more

tells-one : (l : Lists) (moment : ℕ) (e : Entry) (f : Fact) → fact_of l e ≡ Some f → timed_fact l (step_of moment e) ≡ Some (record { at = moment; what = f })
tells-one l moment e f h = ap (λ o. option_map (λ (g : Fact). record { at = moment; what = g }) o) h

facts_of-one : (l : Lists) (moment : ℕ) (e : Entry) (f : Fact) → fact_of l e ≡ Some f →
    facts_of l (step_of moment e ∷ []) ≡ record { at = moment; what = f } ∷ []
facts_of-one l moment e f h = rw (tells-one l moment e f h) refl

pub facts_of-with : (l : Lists) (steps : List Step) (moment : ℕ) (e : Entry) (f : Fact) → fact_of l e ≡ Some f →
    facts_of l (with_entry steps moment e) ≡ facts_of l steps ++ record { at = moment; what = f } ∷ []
facts_of-with l steps moment e f h =
    filter_map-append (timed_fact l) steps (step_of moment e ∷ []) ∙ ap (λ ts. facts_of l steps ++ ts) (facts_of-one l moment e f h)

placed-one : (l : Lists) (moment : ℕ) (e : Entry) (f : Fact) → fact_of l e ≡ Some f → list_all (λ s. is_some (timed_fact l s)) (step_of moment e ∷ []) ≡ true
placed-one l moment e f h = rw (tells-one l moment e f h) refl

-- ---- It is legal, and leads to the point behind it

pub IsLegal-with : (client : Client) (l : Lists) (steps : List Step) (moment : ℕ) (e : Entry) (f : Fact) → fact_of l e ≡ Some f → IsLegal client l steps →
    StandsAt client (point_behind client (facts_of l steps)) (record { at = moment; what = f }) → IsLegal client l (with_entry steps moment e)
IsLegal-with client l steps moment e f h legal stands = record {
  placed =
      list_all-append (λ s. is_some (timed_fact l s)) steps (step_of moment e ∷ [])
      ∙ ap (λ b. b && list_all (λ s. is_some (timed_fact l s)) (step_of moment e ∷ [])) legal.placed ∙ placed-one l moment e f h;
  legal =
      subst (AreLegal client) (sym (facts_of-with l steps moment e f h))
      (Legal-append (StandsAt client) (point_after client) (beginning client) (facts_of l steps) (record { at = moment; what = f } ∷ []) legal.legal (stands, tt));
}

pub point_behind-with : (client : Client) (l : Lists) (steps : List Step) (moment : ℕ) (e : Entry) (f : Fact) → fact_of l e ≡ Some f →
    point_behind client (facts_of l (with_entry steps moment e)) ≡ point_after client (point_behind client (facts_of l steps)) (record { at = moment; what = f })
point_behind-with client l steps moment e f h =
    ap (point_behind client) (facts_of-with l steps moment e f h)
    ∙ state_after-append (point_after client) (beginning client) (facts_of l steps) (record { at = moment; what = f } ∷ [])

-- ---- Longer lists

pub take-all : {A : Type 0} (xs : List A) → take (length xs) xs ≡ xs
take-all [] = refl
take-all (x ∷ xs) = ap (λ ys. x ∷ ys) (take-all xs)

pub slice_get-behind : {A : Type 0} (xs : List A) (x : A) → slice_get (xs ++ x ∷ []) (length xs) ≡ Some x
slice_get-behind [] x = refl
slice_get-behind (y ∷ ys) x = slice_get-behind ys x

-- what the law on longer lists says, at a client
pub record Longer (client : Client) (old new : Lists) (steps : List Step) : Type 0 where
  pub legal : IsLegal client new steps
  pub same : facts_of new steps ≡ facts_of old steps

-- lists as they are, and with one more item each
pub Longer-same : (client : Client) (l : Lists) (steps : List Step) → IsLegal client l steps → Longer client l l steps
Longer-same client l steps h = record { legal = h; same = refl }

pub Extends-names : (l : Lists) (x : Address) → Extends l (record l { names = l.names ++ x ∷ [] })
Extends-names l x = record {
  names = take-append_seam l.names (x ∷ []);
  events = take-all l.events;
  sessions = take-all l.sessions;
  requests = take-all l.requests;
}

pub Extends-events : (l : Lists) (x : TopoEvent) → Extends l (record l { events = l.events ++ x ∷ [] })
Extends-events l x = record {
  names = take-all l.names;
  events = take-append_seam l.events (x ∷ []);
  sessions = take-all l.sessions;
  requests = take-all l.requests;
}

pub Extends-sessions : (l : Lists) (x : Lsid) → Extends l (record l { sessions = l.sessions ++ x ∷ [] })
Extends-sessions l x = record {
  names = take-all l.names;
  events = take-all l.events;
  sessions = take-append_seam l.sessions (x ∷ []);
  requests = take-all l.requests;
}

pub Extends-requests : (l : Lists) (x : Request) → Extends l (record l { requests = l.requests ++ x ∷ [] })
Extends-requests l x = record {
  names = take-all l.names;
  events = take-all l.events;
  sessions = take-all l.sessions;
  requests = take-append_seam l.requests (x ∷ []);
}

-- ---- What a writer wrote

pub IsLegal-written : (client : Client) (old new : Written) (lists : Lists) (moment : ℕ) (e : Entry) (f : Fact) → Longer client old.lists lists old.steps →
    new.lists ≡ lists → new.steps ≡ with_entry old.steps moment e → fact_of lists e ≡ Some f →
    StandsAt client (point_behind client (facts_of old.lists old.steps)) (record { at = moment; what = f }) → IsLegal client new.lists new.steps
IsLegal-written client old new lists moment e f longer l s h stands =
    rw (l, s)
    (IsLegal-with client lists old.steps moment e f h longer.legal
    (subst (λ ts. StandsAt client (point_behind client ts) (record { at = moment; what = f })) (sym longer.same) stands))

pub Adds-written : (client : Client) (used : Room) (old new : Written) (lists : Lists) (moment : ℕ) (e : Entry) (f : Fact) → Longer client old.lists lists old.steps →
    new.lists ≡ lists → new.steps ≡ with_entry old.steps moment e → IsUsed used old.room new.room → fact_of lists e ≡ Some f →
    Adds used lists moment e f (recorded client old) (recorded client new)
Adds-written client used old new lists moment e f longer l s room h = record {
  same_client = refl;
  lists_now = l;
  steps_now = s;
  room_used = room;
  point_was = refl;
  told_now =
      ap (λ (x : Lists). facts_of x new.steps) l ∙ ap (λ (xs : List Step). facts_of lists xs) s ∙ facts_of-with lists old.steps moment e f h
      ∙ ap (λ (ts : List (Timed Fact)). ts ++ record { at = moment; what = f } ∷ []) longer.same;
  point_now =
      ap (λ (x : Lists). point_behind client (facts_of x new.steps)) l ∙ ap (λ (xs : List Step). point_behind client (facts_of lists xs)) s
      ∙ point_behind-with client lists old.steps moment e f h
      ∙ ap (λ (ts : List (Timed Fact)). point_after client (point_behind client ts) (record { at = moment; what = f })) longer.same;
}
