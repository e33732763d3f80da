-- The topology of a trail is what its accepted events make of the opening; its sessions are where their entries lead.
use Rattle.std.proofs.Common.{◌≡◌, ℕ, ◌+◌, Bool, true, false, List, [], ◌∷◌, ◌++◌, Option, None, Some, refl, sym, ap, ◌∙◌, subst}
use Rattle.std.specs.Prelude.{slice_get, fold, if◌then◌else◌}
use Rattle.std.specs.Option.{option_and_then}
use Rattle.entry_judge.specs.declared.timed.Timed.{Timed}
use Rattle.entry_judge.specs.Judge.{Legal, state_after}
use Rattle.entry_judge.specs.Groups.{Stands, next_place, nothing_owed}
use Rattle.sess_book.specs.Entries.{SessEntry, sessions_judge}
use Rattle.sess_book.specs.Sessions.{no_sessions}
use Rattle.topo_rules.specs.Rules.{after}
use Rattle.topo_rules.specs.declared.event.TopoEvent.{TopoEvent}
use Rattle.topo_book.specs.Fresh.{is_accepted_verdict}
use Rattle.topo_book.specs.declared.verdict.Verdict.{Verdict}
use Rattle.topo_book.specs.declared.verdict.Verdict.TheVariants as verdict
use Rattle.desk_trail.specs.declared.entry.OfferedHow.{OfferedHow}
use Rattle.desk_trail.specs.declared.entry.OfferedHow.TheVariants as offered
use Rattle.desk_trail.specs.Attempts.{command_step}
use Rattle.desk_trail.specs.Checks.{kept_at}
use Rattle.desk_trail.specs.Clients.{Client}
use Rattle.desk_trail.specs.Facts.{Fact}
use Rattle.desk_trail.specs.Facts as fact
use Rattle.desk_trail.specs.Leases.{SessionAllows, session_held, session_step_of, sessions_by}
use Rattle.desk_trail.specs.Legal.{AreLegal, MayStand, Point, StandsAt, beginning, changed_by, point_after, point_behind, pool_after}
use Rattle.desk_trail.specs.Parts.{accepted_in, accepted_of, of_sessions, session_part, session_step, session_tells}
use Rattle.desk_trail.specs.Requests.{farewell_by}
use Rattle.desk_trail.specs.States.{ClientState, CommandState}
use Rattle.desk_trail.specs.Topologies.{Says, verdict_on}
use Rattle.desk_trail.proofs.PartLemmas.{Leads, told-leads}
use Rattle.desk_trail.proofs.RestLemmas.{Beside-farewell_by, Beside-look_asks, Beside-offered, Beside-ends_by, Beside-stream_taken, Rest, Rest-asked_by, Rest-commands_after, Rest-pool, Rest-refl}

-- ---- Entries that are neither of the topology nor of the sessions

abbrev is_quiet : Fact → Bool
is_quiet (fact.Offered place event taken) = false
is_quiet (fact.Leased op place lsid fresh) = false
is_quiet (fact.Drew op number) = false
is_quiet (fact.Returned op dirty kept) = false
is_quiet f = true

rest-same : (w v : ClientState) → v.topology ≡ w.topology → v.sessions ≡ w.sessions → Rest w v
rest-same w v a b = record { topology = a; sessions = b }

changed-rest : (client : Client) (moment : ℕ) (w : ClientState) (f : Fact) → is_quiet f ≡ true → Rest w (changed_by client moment w f)
changed-rest client moment w (fact.Named x address) q = record { topology = refl; sessions = refl }
changed-rest client moment w (fact.Dropped x) q = record { topology = refl; sessions = refl }
changed-rest client moment w (fact.Offered place e taken) q = absurd (cc)
changed-rest client moment w (fact.PoolReady x) q = Rest-pool w moment (fact.PoolReady x)
changed-rest client moment w (fact.PoolClear x) q = Rest-pool w moment (fact.PoolClear x)
changed-rest client moment w (fact.PoolShut x) q =
    let v = pool_after w moment (fact.PoolShut x) in
    let r = Rest-pool w moment (fact.PoolShut x) in
    let b = Beside-ends_by x w v in
    record { topology = b.topology ∙ r.topology; sessions = b.sessions ∙ r.sessions }
changed-rest client moment w (fact.CheckBegan x stream) q =
    let b = Beside-stream_taken (kept_at w x) stream w in record { topology = b.topology; sessions = b.sessions }
changed-rest client moment w (fact.CheckDry x) q = record { topology = refl; sessions = refl }
changed-rest client moment w (fact.CheckEnded x h) q = record { topology = refl; sessions = refl }
changed-rest client moment w (fact.Looked op a b kept picked) q =
    let r = Beside-look_asks moment picked w in record { topology = r.topology; sessions = r.sessions }
changed-rest client moment w (fact.Entered op x ticket) q = Rest-pool w moment (fact.Entered op x ticket)
changed-rest client moment w (fact.Lent op x conn) q = Rest-pool w moment (fact.Lent op x conn)
changed-rest client moment w (fact.Dialled op x conn stream) q = Rest-pool w moment (fact.Dialled op x conn stream)
changed-rest client moment w (fact.Settled op x conn stale) q = Rest-pool w moment (fact.Settled op x conn stale)
changed-rest client moment w (fact.NotLent op x why) q = Rest-pool w moment (fact.NotLent op x why)
changed-rest client moment w (fact.CheckedIn op x conn errored) q = Rest-pool w moment (fact.CheckedIn op x conn errored)
changed-rest client moment w (fact.ConnShut x conn reason) q = Rest-pool w moment (fact.ConnShut x conn reason)
changed-rest client moment w (fact.Leased op place lsid fresh) q = absurd (cc)
changed-rest client moment w (fact.Drew op number) q = absurd (cc)
changed-rest client moment w (fact.Returned op dirty kept) q = absurd (cc)
changed-rest client moment w (fact.Asked place r) q =
    let v : ClientState = record w { requests = w.requests + 1 } in
    let b = Beside-farewell_by r.purpose r.stream v in
    let a = Rest-asked_by moment r.purpose (farewell_by r.purpose r.stream v) in
    record { topology = a.topology ∙ b.topology; sessions = a.sessions ∙ b.sessions }
changed-rest client moment w (fact.Ended op end) q = record { topology = refl; sessions = refl }
changed-rest client moment w (fact.Time stamp) q = Rest-refl w
changed-rest client moment w (fact.Finished op outcome) q = record { topology = refl; sessions = refl }

-- ---- The topology

says-folded : (w : ClientState) (e : TopoEvent) (v : Verdict) (h : OfferedHow) (place : ℕ) → Says w e v h →
    (if is_accepted_verdict v then after w.topology e else w.topology) ≡ fold after w.topology (accepted_in (fact.Offered place e h))
says-folded w e verdict.Accepted (offered.Accepted differs) place s = refl
says-folded w e verdict.Gone offered.Gone place s = refl
says-folded w e (verdict.StaleVersion kept came) offered.StaleVersion place s = refl
says-folded w e (verdict.StaleGeneration kept came) offered.StaleGeneration place s = refl
says-folded w e v h place s = absurd s

topology-step : (client : Client) (p : Point) (moment : ℕ) (f : Fact) → MayStand client p moment f →
    (changed_by client moment p.state f).topology ≡ fold after p.state.topology (accepted_in f)
topology-step client p moment (fact.Offered place e taken) m = says-folded p.state e (verdict_on p.state e) taken place m.says
topology-step client p moment (fact.Leased op place lsid fresh) m = refl
topology-step client p moment (fact.Drew op number) m = refl
topology-step client p moment (fact.Returned op dirty kept) m = refl
topology-step client p moment f m = (changed-rest client moment p.state f refl).topology

fold-append : {A B : Type 0} (f : B → A → B) (b : B) (xs ys : List A) → fold f b (xs ++ ys) ≡ fold f (fold f b xs) ys
fold-append f b [] ys = refl
fold-append f b (x ∷ xs) ys = fold-append f (f b x) xs ys

pub topology-from : (client : Client) (p : Point) (ts : List (Timed Fact)) → Legal (StandsAt client) (point_after client) p ts →
    (state_after (point_after client) p ts).state.topology ≡ fold after p.state.topology (accepted_of ts)
topology-from client p [] l = refl
topology-from client p (t ∷ ts) l =
    let v = changed_by client t.at p.state t.what in
    topology-from client (point_after client p t) ts l.1
    ∙ ap (λ x. fold after x (accepted_of ts)) ((Rest-commands_after (command_step client p.state t.what) v).topology
    ∙ topology-step client p t.at t.what l.0.rule)
    ∙ sym (fold-append after p.state.topology (accepted_in t.what) (accepted_of ts))

-- ---- Sessions

abbrev pub SessionLeads : ℕ → ClientState → Option SessEntry → ClientState → Type 0
SessionLeads moment w o v =
    Leads (Stands sessions_judge) (next_place sessions_judge) (nothing_owed w.sessions) (of_sessions moment o) (nothing_owed v.sessions)

session-moves : (moment : ℕ) (w v : ClientState) (o : Option SessEntry) → SessionAllows w moment o → v.sessions ≡ sessions_by moment o w.sessions →
    SessionLeads moment w o v
session-moves moment w v None a e = absurd a
session-moves moment w v (Some x) a e = record { legal = (a, tt); to = ap (λ s. nothing_owed s) e }

held-allows : (w : ClientState) (moment op : ℕ) (f : Fact) (c : CommandState) → slice_get w.commands op ≡ Some c → SessionAllows w moment (session_step_of c f) →
    SessionAllows w moment (session_held w op f)
held-allows w moment op f c there a = subst (λ o. SessionAllows w moment (option_and_then (λ x. session_step_of x f) o)) (sym there) a

session-by : (client : Client) (p : Point) (moment : ℕ) (f : Fact) → MayStand client p moment f →
    SessionLeads moment p.state (session_step p.state f) (changed_by client moment p.state f)
session-by client p moment (fact.Leased op place lsid fresh) m =
    let f = fact.Leased op place lsid fresh in
    session-moves moment p.state (changed_by client moment p.state f) (session_held p.state op f) (held-allows p.state moment op f m.running m.there m.session) refl
session-by client p moment (fact.Drew op number) m =
    let f = fact.Drew op number in
    session-moves moment p.state (changed_by client moment p.state f) (session_held p.state op f) (held-allows p.state moment op f m.running m.there m.session) refl
session-by client p moment (fact.Returned op dirty kept) m =
    let f = fact.Returned op dirty kept in
    session-moves moment p.state (changed_by client moment p.state f) (session_held p.state op f) (held-allows p.state moment op f m.running m.there m.session) refl
session-by client p moment (fact.Offered place e taken) m =
    record { legal = tt; to = ap (λ s. nothing_owed s) (Beside-offered moment e p.state).sessions }
session-by client p moment f m = record { legal = tt; to = ap (λ s. nothing_owed s) (changed-rest client moment p.state f refl).sessions }

pub session-step-leads : (client : Client) (p : Point) (t : Timed Fact) → StandsAt client p t →
    Leads (Stands sessions_judge) (next_place sessions_judge) (nothing_owed p.state.sessions) (session_tells p t) (nothing_owed (point_after client p t).state.sessions)
session-step-leads client p t s =
    let l = session-by client p t.at t.what s.rule in
    let v = changed_by client t.at p.state t.what in
    record {
      legal = l.legal;
      to = ap (λ x. nothing_owed x) (Rest-commands_after (command_step client p.state t.what) v).sessions ∙ l.to;
    }

pub session-leads : (client : Client) (ts : List (Timed Fact)) → AreLegal client ts →
    Leads (Stands sessions_judge) (next_place sessions_judge) (nothing_owed no_sessions) (session_part client ts)
    (nothing_owed (point_behind client ts).state.sessions)
session-leads client ts l =
    told-leads client session_tells (Stands sessions_judge) (next_place sessions_judge) (λ p. nothing_owed p.state.sessions)
    (session-step-leads client) (beginning client) ts l
