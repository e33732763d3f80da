-- Of how a step of a command asks the picker.
use Rattle.std.proofs.Common.{◌≡◌, ℕ, Bool, List, [], ◌∷◌, ◌++◌, Some, refl, sym, ap, subst, ◌∙◌, append_assoc}
use Rattle.std.specs.Prelude.{All, slice_get}
use Rattle.std.proofs.lemmas.Bool.{eq-eqb}
use Rattle.std.proofs.lemmas.List.Elements.{All-append}
use Rattle.bson_doc.specs.declared.ids.Lsid.{Lsid}
use Rattle.entry_judge.specs.declared.timed.Timed.{Timed}
use Rattle.server_pick.specs.declared.candidate.Candidate.{Candidate}
use Rattle.desk_trail.specs.declared.entry.LookedHow.{LookedHow}
use Rattle.desk_trail.specs.Clients.{Client}
use Rattle.desk_trail.specs.Facts.{Fact, facts_of}
use Rattle.desk_trail.specs.Facts as fact
use Rattle.desk_trail.specs.Legal.{Point, point_behind}
use Rattle.desk_trail.specs.States.{CommandState}
use Rattle.legal_trail.specs.Recorded.{Recorded, told_in}
use Rattle.desk_core.specs.Appends.{IsOfLease, NamesNone, Tells}
use Rattle.desk_core.specs.Picks.{IsNoLook, IsPicked, LooksOnce}
use Rattle.desk_core.proofs.AppendsLemmas.{Tells-weaken, all-weaken, tells-trans}

-- ---- What is no look

-- an entry of no command
pub no_look-aside : (f : Fact) → NamesNone f → IsNoLook f
no_look-aside (fact.Looked op x y kept picked) h = let none = h op in let same = eq-eqb op op refl in absurd (cc)
no_look-aside f h = tt

-- an entry that is the command's by any words
pub no_look-leasing : (op : ℕ) (own : Lsid) (f : Fact) → IsOfLease op own f → IsNoLook f
no_look-leasing op own (fact.Looked o x y kept picked) h =
    let by_none = h 0 0 in
    let by_one = h 1 1 in
    let is_none = by_none.looks.0 in
    let is_one = by_one.looks.0 in
    absurd (cc)
no_look-leasing op own f h = tt

-- ---- The look of a step

-- the entries ahead of it, its own, and what came behind it
pub LooksOnce-by : {P : Type 0} (allows : P → Candidate → Bool) (follows : P → Candidate → P → Type 0) (moment op a b : ℕ) (c : CommandState)
    (old ahead told new : Recorded) (p q : P) (kept : List ℕ) (how : LookedHow) (more : List (Timed Fact)) →
    ahead.client ≡ old.client → Tells NamesNone (told_in old) (told_in ahead) →
    ahead.point ≡ point_behind ahead.client (facts_of ahead.lists ahead.steps) →
    told_in told ≡ told_in ahead ++ record { at = moment; what = fact.Looked op a b kept how } ∷ [] → told_in new ≡ told_in told ++ more →
    All (λ (t : Timed Fact). NamesNone t.what) more → slice_get ahead.point.state.commands op ≡ Some c →
    IsPicked allows follows ahead.client ahead.point.state op c p kept q → LooksOnce allows follows moment op old new p q
LooksOnce-by {P} allows follows moment op a b c old ahead told new p q kept how more client before leads look behind none there picked =
    let look_is : Timed Fact = record { at = moment; what = fact.Looked op a b kept how } in
    let is : ahead.point ≡ point_behind old.client (told_in ahead) = leads ∙ ap (λ (k : Client). point_behind k (told_in ahead)) client in
    record {
      ahead = told_in ahead;
      before = Tells-weaken (told_in old) (told_in ahead) no_look-aside before;
      a = a;
      b = b;
      kept = kept;
      how = how;
      rest = more;
      told = behind ∙ ap (λ (ts : List (Timed Fact)). ts ++ more) look ∙ append_assoc (told_in ahead) (look_is ∷ []) more;
      behind = all-weaken no_look-aside more none;
      command = c;
      there = ap (λ (w : Point). slice_get w.state.commands op) (sym is) ∙ there;
      picked =
          subst (λ (w : Point). IsPicked allows follows old.client w.state op c p kept q) is
          (subst (λ (k : Client). IsPicked allows follows k ahead.point.state op c p kept q) client picked);
    }

-- with more entries behind it, of which none is a look
pub LooksOnce-more : {P : Type 0} (allows : P → Candidate → Bool) (follows : P → Candidate → P → Type 0) (moment op : ℕ) (old between new : Recorded) (p q : P) →
    LooksOnce allows follows moment op old between p q → Tells IsNoLook (told_in between) (told_in new) → LooksOnce allows follows moment op old new p q
LooksOnce-more {P} allows follows moment op old between new p q f g =
    let look_is : Timed Fact = record { at = moment; what = fact.Looked op f.a f.b f.kept f.how } in
    record {
      ahead = f.ahead;
      before = f.before;
      a = f.a;
      b = f.b;
      kept = f.kept;
      how = f.how;
      rest = f.rest ++ g.more;
      told = g.facts ∙ ap (λ (ts : List (Timed Fact)). ts ++ g.more) f.told ∙ append_assoc f.ahead (look_is ∷ f.rest) g.more;
      behind = All-append (λ (t : Timed Fact). IsNoLook t.what) f.rest g.more f.behind g.each;
      command = f.command;
      there = f.there;
      picked = f.picked;
    }

-- with more entries ahead of it, of which none is a look
pub LooksOnce-behind : {P : Type 0} (allows : P → Candidate → Bool) (follows : P → Candidate → P → Type 0) (moment op : ℕ) (old between new : Recorded) (p q : P) →
    between.client ≡ old.client → Tells IsNoLook (told_in old) (told_in between) → LooksOnce allows follows moment op between new p q →
    LooksOnce allows follows moment op old new p q
LooksOnce-behind {P} allows follows moment op old between new p q client g f = record {
  ahead = f.ahead;
  before = tells-trans (told_in old) (told_in between) f.ahead g f.before;
  a = f.a;
  b = f.b;
  kept = f.kept;
  how = f.how;
  rest = f.rest;
  told = f.told;
  behind = f.behind;
  command = f.command;
  there = subst (λ (k : Client). slice_get (point_behind k f.ahead).state.commands op ≡ Some f.command) client f.there;
  picked = subst (λ (k : Client). IsPicked allows follows k (point_behind k f.ahead).state op f.command p f.kept q) client f.picked;
}
