-- A command with a number drew it, and has the session from which it drew it until it is answered.
use Rattle.std.proofs.Common.{◌≡◌, ℕ, ℤ, Bool, zero, suc, true, false, cond, eqb, List, [], ◌∷◌, ◌++◌, map, Option, None, Some, refl, sym, ap, ◌∙◌, subst}
use Rattle.std.specs.Prelude.{is_some, slice_get, if◌then◌else◌}
use Rattle.std.specs.Option.{option_and_then, option_map}
use Rattle.std.proofs.lemmas.Bool.{eqb-true}
use Rattle.std.proofs.lemmas.List.{append_assoc}
use Rattle.entry_judge.specs.declared.timed.Timed.{Timed}
use Rattle.bson_doc.specs.declared.ids.Lsid.{Lsid}
use Rattle.cmd_build.specs.declared.command.Command.{Command}
use Rattle.sess_book.specs.Entries as session
use Rattle.sess_book.specs.declared.session.Session.{Session}
use Rattle.write_retry.specs.declared.events.Next.{Next}
use Rattle.write_retry.specs.declared.events.Next.TheVariants as next
use Rattle.desk_trail.specs.Clients.{Client}
use Rattle.desk_trail.specs.Facts.{Fact}
use Rattle.desk_trail.specs.Facts as fact
use Rattle.desk_trail.specs.Leases.{SessionAllows, is_at_choice, lease_step, minutes_needed}
use Rattle.desk_trail.specs.Legal.{AreLegal, point_behind}
use Rattle.desk_trail.specs.Requests.{lsid_of}
use Rattle.desk_trail.specs.States.{ClientState, CommandState, Selected, fresh_command}
use Rattle.request_keys.proofs.ChangeLemmas.{moves}
use Rattle.request_keys.proofs.MachineLemmas.{is_answer}
use Rattle.request_keys.proofs.OwedLemmas.{IsAnswered, IsOwing, owing-begins, owing-step, returns-answered}
use Rattle.request_keys.proofs.SessionLemmas.{lsid-on}
use Rattle.request_keys.proofs.StepLemmas.{holds, is_aside, moves-holds, same-command, unanswered}
use Rattle.request_keys.proofs.TrailLemmas.{Further, along, was}

-- ---- What a draw leaves

-- the command drew the number from a session of that id
pub record Drawn (client : Client) (ts : List (Timed Fact)) (op : ℕ) (number : ℤ) (lsid : Lsid) : Type 0 where
  pub front : List (Timed Fact)
  pub moment : ℕ
  pub behind : List (Timed Fact)
  pub split : ts ≡ front ++ record { at = moment; what = fact.Drew op number } ∷ behind
  pub command : CommandState
  pub there : slice_get (point_behind client front).state.commands op ≡ Some command
  pub id : lsid_of (point_behind client front).state.sessions command.session ≡ Some lsid

-- and has it until it is answered
pub record Has (client : Client) (ts : List (Timed Fact)) (op : ℕ) (number : ℤ) (c : CommandState) : Type 0 where
  pub lsid : Lsid
  pub drawn : Drawn client ts op number lsid
  pub now : is_answer c.op.next ≡ false → lsid_of (point_behind client ts).state.sessions c.session ≡ Some lsid

drawn-on : (client : Client) (xs : List (Timed Fact)) (t : Timed Fact) (op : ℕ) (number : ℤ) (lsid : Lsid) → Drawn client xs op number lsid → Drawn client (xs ++ t ∷ []) op number lsid
drawn-on client xs t op number lsid d = record {
  front = d.front;
  moment = d.moment;
  behind = d.behind ++ t ∷ [];
  split = ap (λ ys. ys ++ t ∷ []) d.split ∙ append_assoc d.front (record { at = d.moment; what = fact.Drew op number } ∷ d.behind) (t ∷ []);
  command = d.command;
  there = d.there;
  id = d.id;
}

has-on : (client : Client) (xs : List (Timed Fact)) (t : Timed Fact) (op : ℕ) (number : ℤ) (c d : CommandState) → Further client xs t → d.session ≡ c.session →
    (is_answer d.op.next ≡ false → is_answer c.op.next ≡ false) → Has client xs op number c → Has client (xs ++ t ∷ []) op number d
has-on client xs t op number c d f same goes h = record {
  lsid = h.lsid;
  drawn = drawn-on client xs t op number h.lsid h.drawn;
  now = λ n. subst (λ s. lsid_of (point_behind client (xs ++ t ∷ [])).state.sessions s ≡ Some h.lsid) (sym same) (lsid-on client xs t c.session h.lsid f (h.now (goes n)));
}

-- ---- What each entry of sessions does

-- a session that is drawn from has an id
record IdOf (w : ClientState) (place : Option ℕ) : Type 0 where
  pub lsid : Lsid
  pub is : lsid_of w.sessions place ≡ Some lsid

id-drawn : (w : ClientState) (moment : ℕ) (number : ℤ) (place : Option ℕ) → SessionAllows w moment (option_map (λ p. session.Drew p number) place) → IdOf w place
id-drawn w moment number None a = absurd a
id-drawn w moment number (Some p) a = record { lsid = a.0.lsid; is = ap (λ o. option_map (λ (x : Session). x.lsid) o) a.1 }

-- a lease is of a command without a session
unleased : (w : ClientState) (moment place : ℕ) (lsid : Lsid) (fresh : Bool) (c : CommandState) → SessionAllows w moment (option_map (lease_step place lsid fresh) (minutes_needed c)) → c.session ≡ None
unleased w moment place lsid fresh c a = by c.session refl a
  where
    by : (o : Option ℕ) → c.session ≡ o →
        SessionAllows w moment (option_map (lease_step place lsid fresh) (if is_some o then None else option_and_then (λ (selected : Selected). selected.minutes) c.selected)) → c.session ≡ None
    by None e x = e
    by (Some p) e x = absurd x

choice-goes : (n : Next) → is_at_choice n ≡ true → is_answer n ≡ false
choice-goes next.Select h = refl
choice-goes (next.CheckOut host) h = refl
choice-goes next.Send h = refl
choice-goes next.Read h = refl
choice-goes (next.Answer o) h = absurd (cc)

abbrev HasPair : Client → ℕ → List (Timed Fact) → Type 0
HasPair client op xs = (c : CommandState) → slice_get (point_behind client xs).state.commands op ≡ Some c → (number : ℤ) → c.number ≡ Some number → Has client xs op number c

-- the command that an entry is of
own-command : (cs : List CommandState) (k op : ℕ) (m c : CommandState) → slice_get cs k ≡ Some m → slice_get cs op ≡ Some c → k ≡ op → m ≡ c
own-command cs k op m c e f same = same-command cs op m c (subst (λ n. slice_get cs n ≡ Some m) same e) f

drew-pair : (client : Client) (xs : List (Timed Fact)) (moment k op : ℕ) (drawn number : ℤ) (c : CommandState) → Further client xs (record { at = moment; what = fact.Drew k drawn }) → HasPair client op xs →
    slice_get (point_behind client xs).state.commands op ≡ Some c → (b : Bool) → (b ≡ true → k ≡ op) → (cond b (record c { number = Some drawn }) c).number ≡ Some number →
    Has client (xs ++ record { at = moment; what = fact.Drew k drawn } ∷ []) op number (cond b (record c { number = Some drawn }) c)
drew-pair client xs moment k op drawn number c f pair there true same has =
    let t : Timed Fact = record { at = moment; what = fact.Drew k drawn } in
    let m = f.stands.rule in
    let w = (point_behind client xs).state in
    let one : m.running ≡ c = own-command w.commands k op m.running c m.there there (same refl) in
    let id = id-drawn w moment drawn c.session (subst (λ (x : CommandState). SessionAllows w moment (option_map (λ p. session.Drew p drawn) x.session)) one m.session) in
    let is : drawn ≡ number = cc in
    record {
      lsid = id.lsid;
      drawn = record {
        front = xs;
        moment = moment;
        behind = [];
        split = ap (λ (e : Fact). xs ++ record { at = moment; what = e } ∷ []) (ap (λ n. fact.Drew n drawn) (same refl) ∙ ap (λ n. fact.Drew op n) is);
        command = c;
        there = there;
        id = id.is;
      };
      now = λ n. lsid-on client xs t c.session id.lsid f id.is;
    }
drew-pair client xs moment k op drawn number c f pair there false same has =
    has-on client xs (record { at = moment; what = fact.Drew k drawn }) op number c c f refl (λ n. n) (pair c there number has)

leased-pair : (client : Client) (xs : List (Timed Fact)) (moment k op place : ℕ) (lsid : Lsid) (fresh : Bool) (number : ℤ) (c : CommandState) →
    Further client xs (record { at = moment; what = fact.Leased k place lsid fresh }) → HasPair client op xs →
    slice_get (point_behind client xs).state.commands op ≡ Some c → (b : Bool) → (b ≡ true → k ≡ op) → (cond b (record c { session = Some place }) c).number ≡ Some number →
    Has client (xs ++ record { at = moment; what = fact.Leased k place lsid fresh } ∷ []) op number (cond b (record c { session = Some place }) c)
leased-pair client xs moment k op place lsid fresh number c f pair there true same has =
    let m = f.stands.rule in
    let w = (point_behind client xs).state in
    let one : m.running ≡ c = own-command w.commands k op m.running c m.there there (same refl) in
    let none = unleased w moment place lsid fresh c (subst (λ (x : CommandState). SessionAllows w moment (option_map (lease_step place lsid fresh) (minutes_needed x))) one m.session) in
    let h = pair c there number has in
    let goes = choice-goes c.op.next (subst (λ (x : CommandState). is_at_choice x.op.next ≡ true) one m.chose) in
    let wrong : None ≡ Some h.lsid = ap (λ o. lsid_of w.sessions o) (sym none) ∙ h.now goes in
    absurd (cc)
leased-pair client xs moment k op place lsid fresh number c f pair there false same has =
    has-on client xs (record { at = moment; what = fact.Leased k place lsid fresh }) op number c c f refl (λ n. n) (pair c there number has)

returned-pair : (client : Client) (xs : List (Timed Fact)) (moment k op : ℕ) (dirty kept : Bool) (number : ℤ) (c : CommandState) →
    Further client xs (record { at = moment; what = fact.Returned k dirty kept }) → IsOwing client xs → HasPair client op xs →
    slice_get (point_behind client xs).state.commands op ≡ Some c → (b : Bool) → (b ≡ true → k ≡ op) → (cond b (record c { session = None }) c).number ≡ Some number →
    Has client (xs ++ record { at = moment; what = fact.Returned k dirty kept } ∷ []) op number (cond b (record c { session = None }) c)
returned-pair client xs moment k op dirty kept number c f owing pair there true same has =
    let p = point_behind client xs in
    let h = pair c there number has in
    let over : is_answer c.op.next ≡ true = returns-answered (IsAnswered p.state) p.owed k dirty kept f.stands.turn owing c (subst (λ n. slice_get p.state.commands n ≡ Some c) (sym (same refl)) there) in
    record {
      lsid = h.lsid;
      drawn = drawn-on client xs (record { at = moment; what = fact.Returned k dirty kept }) op number h.lsid h.drawn;
      now = λ n. absurd (let wrong : true ≡ false = sym over ∙ n in cc);
    }
returned-pair client xs moment k op dirty kept number c f owing pair there false same has =
    has-on client xs (record { at = moment; what = fact.Returned k dirty kept }) op number c c f refl (λ n. n) (pair c there number has)

first-part : (c d : CommandState) → holds c ≡ holds d → c.session ≡ d.session
first-part c d h = ap (λ (p : Option ℕ × Option ℤ). p.0) h

second-part : (c d : CommandState) → holds c ≡ holds d → c.number ≡ d.number
second-part c d h = ap (λ (p : Option ℕ × Option ℤ). p.1) h

aside-pair : (client : Client) (xs : List (Timed Fact)) (t : Timed Fact) (op : ℕ) (number : ℤ) (c : CommandState) → is_aside t.what ≡ true → Further client xs t → HasPair client op xs →
    slice_get (point_behind client xs).state.commands op ≡ Some c → (moves client t.at (point_behind client xs).state t.what op c).number ≡ Some number →
    Has client (xs ++ t ∷ []) op number (moves client t.at (point_behind client xs).state t.what op c)
aside-pair client xs t op number c q f pair there has =
    let w = (point_behind client xs).state in
    let d = moves client t.at w t.what op c in
    let same = moves-holds client t.at w t.what op c q in
    has-on client xs t op number c d f (first-part d c same) (unanswered client t.at w t.what op c there f.stands.command)
    (pair c there number (sym (second-part d c same) ∙ has))

pair-by : (client : Client) (xs : List (Timed Fact)) (moment : ℕ) (e : Fact) (op : ℕ) (number : ℤ) (c : CommandState) → Further client xs (record { at = moment; what = e }) → IsOwing client xs →
    HasPair client op xs → slice_get (point_behind client xs).state.commands op ≡ Some c → (moves client moment (point_behind client xs).state e op c).number ≡ Some number →
    Has client (xs ++ record { at = moment; what = e } ∷ []) op number (moves client moment (point_behind client xs).state e op c)
pair-by client xs moment (fact.Drew k drawn) op number c f owing pair there has = drew-pair client xs moment k op drawn number c f pair there (eqb k op) (λ y. eqb-true k op y) has
pair-by client xs moment (fact.Leased k place lsid fresh) op number c f owing pair there has =
    leased-pair client xs moment k op place lsid fresh number c f pair there (eqb k op) (λ y. eqb-true k op y) has
pair-by client xs moment (fact.Returned k dirty kept) op number c f owing pair there has =
    returned-pair client xs moment k op dirty kept number c f owing pair there (eqb k op) (λ y. eqb-true k op y) has
pair-by client xs moment e op number c f owing pair there has = aside-pair client xs (record { at = moment; what = e }) op number c refl f pair there has

-- ---- Along a trail

record Kept (client : Client) (op : ℕ) (xs : List (Timed Fact)) : Type 0 where
  pub owing : IsOwing client xs
  pub pair : HasPair client op xs

kept-step : (client : Client) (op : ℕ) (xs : List (Timed Fact)) (t : Timed Fact) → Further client xs t → Kept client op xs → Kept client op (xs ++ t ∷ [])
kept-step client op xs t f k = record {
  owing = owing-step client xs t f k.owing;
  pair = λ d there number has.
      let b = was client xs t op d f there in
      subst (Has client (xs ++ t ∷ []) op number) (sym b.is)
      (pair-by client xs t.at t.what op number b.command f k.owing k.pair b.there (sym (ap (λ (x : CommandState). x.number) b.is) ∙ has));
}

pub fresh-get : (commands : List Command) (op : ℕ) (c : CommandState) → slice_get (map fresh_command commands) op ≡ Some c → (x : Command) × (c ≡ fresh_command x)
fresh-get [] op c e = absurd (cc)
fresh-get (x ∷ xs) zero c e = let one : fresh_command x ≡ c = (cc) in (x, sym one)
fresh-get (x ∷ xs) (suc op) c e = fresh-get xs op c e

pub has-pair : (client : Client) (op : ℕ) (ts : List (Timed Fact)) (c : CommandState) (number : ℤ) → AreLegal client ts → slice_get (point_behind client ts).state.commands op ≡ Some c → c.number ≡ Some number →
    Has client ts op number c
has-pair client op ts c number l there has =
    (along client (Kept client op) (kept-step client op) [] ts l (record {
      owing = owing-begins client;
      pair = λ d i n e. absurd (let g = fresh-get client.commands op d i in let wrong : None ≡ Some n = ap (λ (x : CommandState). x.number) (sym g.1) ∙ e in cc);
    })).pair c there number has
