-- A trail to which farewells are appended.
use Rattle.std.proofs.Common.{◌≡◌, ◌||◌, ℕ, true, false, List, [], ◌∷◌, refl, ap, ◌∙◌}
use Rattle.std.specs.Prelude.{All}
use Rattle.std.proofs.lemmas.List.Elements.{All-cons, All-head, All-nil, All-tail}
use Rattle.entry_judge.specs.declared.timed.Timed.{Timed}
use Rattle.desk_trail.specs.declared.entry.Entry.{Entry}
use Rattle.desk_trail.specs.declared.entry.Entry.TheVariants as entry
use Rattle.desk_trail.specs.declared.step.Step.{Step}
use Rattle.desk_trail.specs.Facts.{Fact, Lists}
use Rattle.desk_trail.specs.Facts as fact
use Rattle.desk_trail.specs.Orders.{asks_for}
use Rattle.desk_trail.specs.States.{ClientState}
use Rattle.legal_trail.specs.Recorded.{Recorded}
use Rattle.end_sessions.specs.Farewells.{AsksFarewell, AsksFarewells, asks}
use Rattle.wired_trail.specs.Faults.{tells_fault}
use Rattle.desk_core.specs.Appends.{AppendsAside, NamesNone, tell_fault}
use Rattle.desk_core.proofs.AppendsLemmas.{IsLonger-by, IsLonger-refl}

asks-quiet : (e : Entry) → asks e ≡ true → tells_fault e ≡ false
asks-quiet (entry.Asked place) h = refl
asks-quiet e h = absurd (cc)

asks-no_fault : (steps : List Step) → All (λ (s : Step). asks s.entry ≡ true) steps → tell_fault steps ≡ false
asks-no_fault [] h = refl
asks-no_fault (s ∷ ss) h =
    ap (λ b. b || tell_fault ss) (asks-quiet s.entry (All-head (λ (x : Step). asks x.entry ≡ true) s ss h))
    ∙ asks-no_fault ss (All-tail (λ (x : Step). asks x.entry ≡ true) s ss h)

farewell-none : (f : Fact) → AsksFarewell f → NamesNone f
farewell-none (fact.Asked place r) is = λ o. ap (asks_for o) is
farewell-none f is = absurd is

farewells-none : (ts : List (Timed Fact)) → All (λ (t : Timed Fact). AsksFarewell t.what) ts → All (λ (t : Timed Fact). NamesNone t.what) ts
farewells-none [] h = All-nil (λ (t : Timed Fact). NamesNone t.what)
farewells-none (t ∷ ts) h =
    All-cons (λ (x : Timed Fact). NamesNone x.what) t ts (farewell-none t.what (All-head (λ (x : Timed Fact). AsksFarewell x.what) t ts h))
    (farewells-none ts (All-tail (λ (x : Timed Fact). AsksFarewell x.what) t ts h))

-- by farewells alone
pub Appends-farewells : (moment : ℕ) (old new : Recorded) → AsksFarewells moment old new → AppendsAside ⊥ moment old new
Appends-farewells moment old new a = record {
  appends = record {
    appends = record {
      client = a.client;
      added = a.added;
      steps = a.steps;
      moments = a.moments;
      faults = λ e. let none = asks-no_fault a.added a.each in absurd (cc);
      names = IsLonger-refl old.lists.names new.lists.names (ap (λ (l : Lists). l.names) a.lists);
      events = IsLonger-refl old.lists.events new.lists.events (ap (λ (l : Lists). l.events) a.lists);
      sessions = IsLonger-refl old.lists.sessions new.lists.sessions (ap (λ (l : Lists). l.sessions) a.lists);
      requests = IsLonger-by old.lists.requests new.lists.requests a.more (ap (λ (l : Lists). l.requests) a.lists);
    };
    tells = record { more = a.told; facts = a.tells; each = farewells-none a.told a.farewells };
  };
  aside = record {
    commands = ap (λ (w : ClientState). w.commands) a.state;
    sessions = ap (λ (w : ClientState). w.sessions) a.state;
  };
  ids = ap (λ (l : Lists). l.sessions) a.lists;
}
