-- A command has a key of its own.
use Rattle.std.proofs.Common.{◌≡◌, ◌≤◌, ◌⊎◌, inl, inr, ℕ, ℤ, pos, true, false, eqb, List, [], ◌∷◌, ◌++◌, Option, None, Some, refl, sym, ap, ◌∙◌, subst, arith}
use Rattle.std.specs.Prelude.{is_some, slice_get}
use Rattle.std.proofs.lemmas.Bool.{cases_lt, eq-eqb, eqb-true}
use Rattle.std.proofs.lemmas.List.{append-nil, append_assoc}
use Rattle.entry_judge.specs.declared.timed.Timed.{Timed}
use Rattle.bson_doc.specs.declared.ids.Lsid.{Lsid}
use Rattle.bson_doc.specs.declared.value.Document.{Document}
use Rattle.member_core.specs.Keys.{key_from, same_key}
use Rattle.member_core.specs.Keys as keys
use Rattle.member_core.specs.Logs.{key_in}
use Rattle.member_core.specs.declared.key.Key.{Key}
use Rattle.member_core.specs.declared.key.Key.TheVariants.{Numbered, Placed}
use Rattle.member_core.proofs.Bits.{same_bool}
use Rattle.member_core.proofs.Counts.{same_key-is, same_key-self}
use Rattle.msg_wire.specs.Framing.{Framed, message_of}
use Rattle.msg_wire.specs.Messages.{Begins, IsFirst, behind_messages, messages}
use Rattle.msg_wire.specs.declared.message.Message.{Message}
use Rattle.desk_trail.specs.declared.request.Purpose.TheVariants as purpose
use Rattle.desk_trail.specs.declared.request.Request.{Request}
use Rattle.desk_trail.specs.Clients.{Client}
use Rattle.desk_trail.specs.Facts.{Fact}
use Rattle.desk_trail.specs.Facts as fact
use Rattle.desk_trail.specs.Legal.{AreLegal, point_behind}
use Rattle.desk_trail.specs.Orders.{asks_for}
use Rattle.desk_trail.specs.Requests.{IsFor, IsRequestOf, document_sent, lsid_of}
use Rattle.desk_trail.specs.States.{CommandState}
use Rattle.request_keys.specs.Keys.{key_of_request}
use Rattle.request_keys.specs.Requests.{IsAttempt, requests_on}
use Rattle.request_keys.proofs.AskingLemmas.{Asking, Numbers, Sending, Two, asks, counted_in, counted-on, is_one, sending, two-askings, two-counted, two-of}
use Rattle.request_keys.proofs.DocumentLemmas.{document-lsid, document-number}
use Rattle.request_keys.proofs.DrawnLemmas.{Drawn, has-pair}
use Rattle.request_keys.proofs.ListLemmas.{Between, parts}
use Rattle.request_keys.proofs.MachineLemmas.{is_answer}
use Rattle.request_keys.proofs.SessionLemmas.{lsid-sixteen, sixteen}
use Rattle.request_keys.proofs.StepLemmas.{same-command}
use Rattle.request_keys.proofs.StreamLemmas.{AskedAt, asked-at}
use Rattle.request_keys.proofs.TrailLemmas.{front-legal, further}

-- ---- What laws of other crates say

abbrev pub BeginsFirst : Type 0
BeginsFirst = (bytes : List ℕ) (some : List Message) (rest : List ℕ) → Begins bytes some rest
    → (messages bytes ≡ some ++ messages rest) × (behind_messages bytes ≡ behind_messages rest)

abbrev pub DrawsOnce : Type 0
DrawsOnce = (client : Client) (xs ys : List (Timed Fact)) (op first second : ℕ) (m n : ℤ)
    → AreLegal client (xs ++ record { at = first; what = fact.Drew op m } ∷ (ys ++ record { at = second; what = fact.Drew op n } ∷ [])) → ⊥

abbrev pub NumbersApart : Type 0
NumbersApart = (client : Client) (xs ys : List (Timed Fact)) (first second a b : ℕ) (m n : ℤ) (x y : CommandState)
    → AreLegal client (xs ++ record { at = first; what = fact.Drew a m } ∷ (ys ++ record { at = second; what = fact.Drew b n } ∷ []))
    → slice_get (point_behind client xs).state.commands a ≡ Some x
    → slice_get (point_behind client (xs ++ record { at = first; what = fact.Drew a m } ∷ ys)).state.commands b ≡ Some y
    → lsid_of (point_behind client xs).state.sessions x.session
    ≡ lsid_of (point_behind client (xs ++ record { at = first; what = fact.Drew a m } ∷ ys)).state.sessions y.session
    → m ≡ n → ⊥

-- ---- Two draws of a trail

drawn-further : (client : Client) (xs ys : List (Timed Fact)) (op : ℕ) (number : ℤ) (lsid : Lsid) → Drawn client xs op number lsid → Drawn client (xs ++ ys) op number lsid
drawn-further client xs ys op number lsid d = record {
  front = d.front;
  moment = d.moment;
  behind = d.behind ++ ys;
  split = ap (λ zs. zs ++ ys) d.split ∙ append_assoc d.front (record { at = d.moment; what = fact.Drew op number } ∷ d.behind) ys;
  command = d.command;
  there = d.there;
  id = d.id;
}

-- a trail up to the later of them
pub both-legal : (client : Client) (facts xs ys : List (Timed Fact)) (t u : Timed Fact) (us : List (Timed Fact)) → AreLegal client facts → (b : Between xs t ys) → facts ≡ ys ++ u ∷ us →
    AreLegal client (xs ++ t ∷ (b.mid ++ u ∷ []))
both-legal client facts xs ys t u us l b e =
    let all : AreLegal client (ys ++ u ∷ us) = subst (AreLegal client) e l in
    let up : AreLegal client (ys ++ u ∷ []) = front-legal client (ys ++ u ∷ []) us (subst (AreLegal client) (sym (append_assoc ys (u ∷ []) us)) all) in
    subst (AreLegal client) (ap (λ zs. zs ++ u ∷ []) b.is ∙ append_assoc xs (t ∷ b.mid) (u ∷ [])) up

item-op : (a b : ℕ) (m n : ℤ) (i j : ℕ) (x y : Timed Fact) → x ≡ record { at = i; what = fact.Drew a m } → y ≡ record { at = j; what = fact.Drew b n } → x ≡ y → (a ≡ b) × (m ≡ n)
item-op a b m n i j x y e f same =
    let one : fact.Drew a m ≡ fact.Drew b n = ap (λ (t : Timed Fact). t.what) (sym e ∙ same ∙ f) in
    (cc, cc)

-- of one command: they are one
pub one-draw : DrawsOnce → (client : Client) (facts : List (Timed Fact)) (op : ℕ) (k n : ℤ) (id lsid : Lsid) → AreLegal client facts → Drawn client facts op k id → Drawn client facts op n lsid →
    (k ≡ n) × (id ≡ lsid)
one-draw once client facts op k n id lsid l d e =
    elim (parts d.front (record { at = d.moment; what = fact.Drew op k }) d.behind e.front (record { at = e.moment; what = fact.Drew op n }) e.behind (sym d.split ∙ e.split)) [
      | inl s ↦
          let is = item-op op op k n d.moment e.moment (record { at = d.moment; what = fact.Drew op k }) (record { at = e.moment; what = fact.Drew op n }) refl refl s.items in
          let at : slice_get (point_behind client d.front).state.commands op ≡ Some e.command = subst (λ xs. slice_get (point_behind client xs).state.commands op ≡ Some e.command) (sym s.fronts) e.there in
          let one : d.command ≡ e.command = same-command (point_behind client d.front).state.commands op d.command e.command d.there at in
          let there : lsid_of (point_behind client d.front).state.sessions d.command.session ≡ Some lsid =
          subst (λ (c : CommandState). lsid_of (point_behind client d.front).state.sessions c.session ≡ Some lsid) (sym one)
          (subst (λ xs. lsid_of (point_behind client xs).state.sessions e.command.session ≡ Some lsid) (sym s.fronts) e.id) in
          let both : Some id ≡ Some lsid = sym d.id ∙ there in
          (is.1, cc)
      | inr (inl b) ↦ absurd (once client d.front b.mid op d.moment e.moment k n (both-legal client facts d.front e.front _ _ e.behind l b e.split))
      | inr (inr b) ↦ absurd (once client e.front b.mid op e.moment d.moment n k (both-legal client facts e.front d.front _ _ d.behind l b d.split))
    ]

-- of one number and id: they are one command's
pub one-drawer : NumbersApart → (client : Client) (facts : List (Timed Fact)) (a b : ℕ) (k : ℤ) (id : Lsid) → AreLegal client facts → Drawn client facts a k id → Drawn client facts b k id → a ≡ b
one-drawer apart client facts a b k id l d e =
    elim (parts d.front (record { at = d.moment; what = fact.Drew a k }) d.behind e.front (record { at = e.moment; what = fact.Drew b k }) e.behind (sym d.split ∙ e.split)) [
      | inl s ↦ (item-op a b k k d.moment e.moment (record { at = d.moment; what = fact.Drew a k }) (record { at = e.moment; what = fact.Drew b k }) refl refl s.items).0
      | inr (inl m) ↦
          let there = subst (λ xs. slice_get (point_behind client xs).state.commands b ≡ Some e.command) m.is e.there in
          let its = subst (λ xs. lsid_of (point_behind client xs).state.sessions e.command.session ≡ Some id) m.is e.id in
          absurd (apart client d.front m.mid d.moment e.moment a b k k d.command e.command (both-legal client facts d.front e.front _ _ e.behind l m e.split) d.there there (d.id ∙ sym its) refl)
      | inr (inr m) ↦
          let there = subst (λ xs. slice_get (point_behind client xs).state.commands a ≡ Some d.command) m.is d.there in
          let its = subst (λ xs. lsid_of (point_behind client xs).state.sessions d.command.session ≡ Some id) m.is d.id in
          absurd (apart client e.front m.mid e.moment d.moment b a k k e.command d.command (both-legal client facts e.front d.front _ _ d.behind l m d.split) e.there there (e.id ∙ sym its) refl)
    ]

-- ---- The key of an attempt

-- its bytes are one message's
message-key : BeginsFirst → (r : Request) (body : Document) (stream nth : ℕ) → Framed r.bytes (message_of r.id (pos 0) 0 body) → key_of_request r stream nth ≡ keys.key_of body stream nth
message-key law r body stream nth framed =
    let m = message_of r.id (pos 0) 0 body in
    let first : IsFirst r.bytes m [] = record { text = r.bytes; parts = sym (append-nil r.bytes); framed = framed } in
    ap (λ ms. key_in (slice_get ms 0) stream nth) (law r.bytes (m ∷ []) [] ([], first, refl)).0

key-none : (o : Option Lsid) (stream nth : ℕ) → key_from o None stream nth ≡ Placed stream nth
key-none None stream nth = refl
key-none (Some lsid) stream nth = refl

-- without a number it is known by its place
record Numberless (client : Client) (front : List (Timed Fact)) (op stream nth : ℕ) (key : Key) : Type 0 where
  pub command : CommandState
  pub there : slice_get (point_behind client front).state.commands op ≡ Some command
  pub none : command.number ≡ None
  pub is : key ≡ Placed stream nth

-- with one by the session's id and the number
record Numbering (client : Client) (facts front : List (Timed Fact)) (op : ℕ) (key : Key) : Type 0 where
  pub command : CommandState
  pub there : slice_get (point_behind client front).state.commands op ≡ Some command
  pub number : ℤ
  pub has : command.number ≡ Some number
  pub lsid : Lsid
  pub drawn : Drawn client facts op number lsid
  pub is : key ≡ Numbered lsid number

abbrev KeyOf : Client → List (Timed Fact) → List (Timed Fact) → ℕ → ℕ → ℕ → Key → Type 0
KeyOf client facts front op stream nth key = Numberless client front op stream nth key ⊎ Numbering client facts front op key

abbrev asking-of : (facts : List (Timed Fact)) (op stream : ℕ) (r : Request) → AskedAt facts stream r → r.purpose ≡ purpose.Command op → Asking facts op
asking-of facts op stream r a is = record { front = a.front; moment = a.moment; place = a.place; request = r; behind = a.behind; split = a.split; is_for = is }

attempt-key : BeginsFirst → (client : Client) (facts : List (Timed Fact)) (op stream nth : ℕ) (r : Request) → AreLegal client facts → (a : AskedAt facts stream r) → r.purpose ≡ purpose.Command op →
    KeyOf client facts a.front op stream nth (key_of_request r stream nth)
attempt-key law client facts op stream nth r l a is =
    let p = point_behind client a.front in
    let t = asks a.moment a.place r in
    let f = further client a.front t a.behind (subst (AreLegal client) a.split l) in
    let s = sending client op a.front a.moment a.place r f is in
    let q : IsRequestOf client p.state p.time op r = subst (λ u. IsFor client p.state a.moment p.time u r) is f.stands.rule.is_for in
    by f.front s q q.sends.running.number refl
  where
    by : AreLegal client a.front → Sending client a.front op → (q : IsRequestOf client (point_behind client a.front).state (point_behind client a.front).time op r) → (o : Option ℤ) →
        q.sends.running.number ≡ o → KeyOf client facts a.front op stream nth (key_of_request r stream nth)
    by front s q o e =
        let w = (point_behind client a.front).state in
        let c = q.sends.running in
        let body = document_sent client w (point_behind client a.front).time op q.sends in
        let number : keys.number_of body ≡ c.number = document-number q.sends.command client.settings.db q.sends.extras q.sends.cluster ∙ q.sends.are.number in
        let key : key_of_request r stream nth ≡ key_from (keys.lsid_of body) c.number stream nth =
        message-key law r body stream nth q.message.framed ∙ ap (λ n. key_from (keys.lsid_of body) n stream nth) number in
        go o e key
      where
        go : (o : Option ℤ) → q.sends.running.number ≡ o →
            key_of_request r stream nth ≡ key_from (keys.lsid_of (document_sent client (point_behind client a.front).state (point_behind client a.front).time op q.sends)) q.sends.running.number stream nth →
            KeyOf client facts a.front op stream nth (key_of_request r stream nth)
        go None e key = inl (record {
          command = q.sends.running;
          there = q.sends.there;
          none = e;
          is = key ∙ ap (λ n. key_from (keys.lsid_of (document_sent client (point_behind client a.front).state (point_behind client a.front).time op q.sends)) n stream nth) e
              ∙ key-none (keys.lsid_of (document_sent client (point_behind client a.front).state (point_behind client a.front).time op q.sends)) stream nth;
        })
        go (Some k) e key =
            let w = (point_behind client a.front).state in
            let c = q.sends.running in
            let h = has-pair client op a.front c k front q.sends.there e in
            let one : s.command ≡ c = same-command w.commands op s.command c s.there q.sends.there in
            let goes : is_answer c.op.next ≡ false = ap (λ (x : CommandState). is_answer x.op.next) (sym one) ∙ ap is_answer s.next in
            let held = h.now goes in
            let sent = q.sends.are.session ∙ held in
            let told = document-lsid q.sends.command client.settings.db q.sends.extras q.sends.cluster h.lsid sent (lsid-sixteen w.sessions c.session h.lsid (sixteen client a.front front) held) in
            inr (record {
              command = c;
              there = q.sends.there;
              number = k;
              has = e;
              lsid = h.lsid;
              drawn = subst (λ xs. Drawn client xs op k h.lsid) (sym a.split) (drawn-further client a.front (asks a.moment a.place r ∷ a.behind) op k h.lsid h.drawn);
              is = key ∙ ap (λ n. key_from (keys.lsid_of (document_sent client w (point_behind client a.front).time op q.sends)) n stream nth) e ∙ ap (λ o. key_from o (Some k) stream nth) told;
            })

-- ---- One command has one key

unnumbered : (o : Option ℤ) → o ≡ None → is_some o ≡ true → ⊥
unnumbered o e h = let wrong : false ≡ true = sym (ap is_some e) ∙ h in absurd (cc)

-- without a number it has one request
lone : (client : Client) (facts : List (Timed Fact)) (op : ℕ) → AreLegal client facts → (a : Asking facts op) → (c : CommandState) → slice_get (point_behind client a.front).state.commands op ≡ Some c →
    c.number ≡ None → counted_in (is_one op) facts ≤ 1
lone client facts op l a c there none = elim (cases_lt (counted_in (is_one op) facts) 2) [
  | inl less ↦ omega (arith, less)
  | inr more ↦ absurd (by (two-of op facts more))
]
  where
    by : Two facts op → ⊥
    by w =
        elim (parts a.front (asks a.moment a.place a.request) a.behind w.first.front (asks w.first.moment w.first.place w.first.request) w.first.behind (sym a.split ∙ w.first.split)) [
          | inl s ↦
              unnumbered c.number none
              ((two-askings client op facts l w.first w.second w.between).first c (subst (λ xs. slice_get (point_behind client xs).state.commands op ≡ Some c) s.fronts there))
          | inr (inl b) ↦ unnumbered c.number none ((two-askings client op facts l a w.first b).first c there)
          | inr (inr b) ↦ unnumbered c.number none ((two-askings client op facts l w.first a b).second c there)
        ]

two-numbered : DrawsOnce → (client : Client) (facts xs ys : List (Timed Fact)) (op : ℕ) (k j : Key) → AreLegal client facts → Numbering client facts xs op k → Numbering client facts ys op j → k ≡ j
two-numbered once client facts xs ys op k j l x y =
    let is = one-draw once client facts op x.number y.number x.lsid y.lsid l x.drawn y.drawn in
    x.is ∙ ap (λ id. Numbered id x.number) is.1 ∙ ap (λ n. Numbered y.lsid n) is.0 ∙ sym y.is

apart-keys : DrawsOnce → (client : Client) (facts xs ys : List (Timed Fact)) (op s n t m : ℕ) (k j : Key) → AreLegal client facts → Numbers client xs ys op → KeyOf client facts xs op s n k →
    KeyOf client facts ys op t m j → k ≡ j
apart-keys once client facts xs ys op s n t m k j l both (inl x) y = absurd (unnumbered x.command.number x.none (both.first x.command x.there))
apart-keys once client facts xs ys op s n t m k j l both (inr x) (inl y) = absurd (unnumbered y.command.number y.none (both.second y.command y.there))
apart-keys once client facts xs ys op s n t m k j l both (inr x) (inr y) = two-numbered once client facts xs ys op k j l x y

same-request : (i p j o : ℕ) (r q : Request) → asks i p r ≡ asks j o q → r ≡ q
same-request i p j o r q e = let one : fact.Asked p r ≡ fact.Asked o q = ap (λ (t : Timed Fact). t.what) e in cc

one-place : (client : Client) (facts : List (Timed Fact)) (op s n t m : ℕ) (r q : Request) → slice_get (requests_on client facts s) n ≡ Some r → slice_get (requests_on client facts t) m ≡ Some q →
    r.purpose ≡ purpose.Command op → q.purpose ≡ purpose.Command op → s ≡ t → counted_in (is_one op) facts ≤ 1 → n ≡ m
one-place client facts op s n t m r q e f is for same few =
    let own : (x : Request) → x.purpose ≡ purpose.Command op → is_one op x ≡ true = λ x g. ap (λ u. asks_for op u) g ∙ eq-eqb op op refl in
    let g : slice_get (requests_on client facts s) m ≡ Some q = subst (λ k. slice_get (requests_on client facts k) m ≡ Some q) (sym same) f in
    two-counted (is_one op) (requests_on client facts s) n m r q e g (own r is) (own q for) (omega (arith, counted-on (is_one op) client facts s, few))

pub one-key : BeginsFirst → DrawsOnce → (client : Client) (facts : List (Timed Fact)) (op s n t m : ℕ) (r q : Request) → AreLegal client facts → IsAttempt client facts op s n r → IsAttempt client facts op t m q →
    key_of_request r s n ≡ key_of_request q t m
one-key law once client facts op s n t m r q l u v =
    let a = asked-at client facts s n r u.there in
    let b = asked-at client facts t m q v.there in
    let x = attempt-key law client facts op s n r l a u.is_for in
    let y = attempt-key law client facts op t m q l b v.is_for in
    elim (parts a.front (asks a.moment a.place r) a.behind b.front (asks b.moment b.place q) b.behind (sym a.split ∙ b.split)) [
      | inl z ↦
          let one = same-request a.moment a.place b.moment b.place r q z.items in
          by a b x y z.fronts (sym a.on ∙ ap (λ (w : Request). w.stream) one ∙ b.on)
      | inr (inl z) ↦
          apart-keys once client facts a.front b.front op s n t m (key_of_request r s n) (key_of_request q t m) l
          (two-askings client op facts l (asking-of facts op s r a u.is_for) (asking-of facts op t q b v.is_for) z) x y
      | inr (inr z) ↦
          sym (apart-keys once client facts b.front a.front op t m s n (key_of_request q t m) (key_of_request r s n) l
          (two-askings client op facts l (asking-of facts op t q b v.is_for) (asking-of facts op s r a u.is_for) z) y x)
    ]
  where
    by : (a : AskedAt facts s r) (b : AskedAt facts t q) → KeyOf client facts a.front op s n (key_of_request r s n) → KeyOf client facts b.front op t m (key_of_request q t m) → a.front ≡ b.front → s ≡ t →
        key_of_request r s n ≡ key_of_request q t m
    by a b (inl x) (inl y) fronts same =
        let few = lone client facts op l (asking-of facts op s r a u.is_for) x.command x.there x.none in
        let places = one-place client facts op s n t m r q u.there v.there u.is_for v.is_for same few in
        x.is ∙ ap (λ k. Placed k n) same ∙ ap (λ k. Placed t k) places ∙ sym y.is
    by a b (inl x) (inr y) fronts same =
        let there = subst (λ xs. slice_get (point_behind client xs).state.commands op ≡ Some y.command) (sym fronts) y.there in
        let one : x.command ≡ y.command = same-command (point_behind client a.front).state.commands op x.command y.command x.there there in
        absurd (unnumbered x.command.number x.none (ap (λ (c : CommandState). is_some c.number) one ∙ ap is_some y.has))
    by a b (inr x) (inl y) fronts same =
        let there = subst (λ xs. slice_get (point_behind client xs).state.commands op ≡ Some y.command) (sym fronts) y.there in
        let one : x.command ≡ y.command = same-command (point_behind client a.front).state.commands op x.command y.command x.there there in
        absurd (unnumbered y.command.number y.none (ap (λ (c : CommandState). is_some c.number) (sym one) ∙ ap is_some x.has))
    by a b (inr x) (inr y) fronts same = two-numbered once client facts a.front b.front op (key_of_request r s n) (key_of_request q t m) l x y

-- ---- Two commands have two

pub one-command : BeginsFirst → NumbersApart → (client : Client) (facts : List (Timed Fact)) (a s n b t m : ℕ) (r q : Request) → AreLegal client facts → IsAttempt client facts a s n r →
    IsAttempt client facts b t m q → key_of_request r s n ≡ key_of_request q t m → a ≡ b
one-command law apart client facts a s n b t m r q l u v same =
    let i = asked-at client facts s n r u.there in
    let j = asked-at client facts t m q v.there in
    by i j (attempt-key law client facts a s n r l i u.is_for) (attempt-key law client facts b t m q l j v.is_for)
  where
    by : (i : AskedAt facts s r) (j : AskedAt facts t q) → KeyOf client facts i.front a s n (key_of_request r s n) → KeyOf client facts j.front b t m (key_of_request q t m) → a ≡ b
    by i j (inl x) (inl y) =
        let one : Placed s n ≡ Placed t m = sym x.is ∙ same ∙ y.is in
        let stream : s ≡ t = (cc) in
        let place : n ≡ m = (cc) in
        let there : slice_get (requests_on client facts s) n ≡ Some q =
        subst (λ k. slice_get (requests_on client facts k) n ≡ Some q) (sym stream) (subst (λ k. slice_get (requests_on client facts t) k ≡ Some q) (sym place) v.there) in
        let both : Some r ≡ Some q = sym u.there ∙ there in
        let request : r ≡ q = (cc) in
        let purposes : purpose.Command a ≡ purpose.Command b = sym u.is_for ∙ ap (λ (x : Request). x.purpose) request ∙ v.is_for in
        cc
    by i j (inl x) (inr y) = let wrong : Placed s n ≡ Numbered y.lsid y.number = sym x.is ∙ same ∙ y.is in absurd (cc)
    by i j (inr x) (inl y) = let wrong : Numbered x.lsid x.number ≡ Placed t m = sym x.is ∙ same ∙ y.is in absurd (cc)
    by i j (inr x) (inr y) =
        let one : Numbered x.lsid x.number ≡ Numbered y.lsid y.number = sym x.is ∙ same ∙ y.is in
        let id : x.lsid ≡ y.lsid = (cc) in
        let number : x.number ≡ y.number = (cc) in
        one-drawer apart client facts a b y.number y.lsid l (subst (λ k. Drawn client facts a k y.lsid) number (subst (λ k. Drawn client facts a x.number k) id x.drawn)) y.drawn

-- ---- The law

pub own-key : BeginsFirst → DrawsOnce → NumbersApart → (client : Client) (facts : List (Timed Fact)) (a s n b t m : ℕ) (r q : Request) → AreLegal client facts → IsAttempt client facts a s n r →
    IsAttempt client facts b t m q → same_key (key_of_request r s n) (key_of_request q t m) ≡ eqb a b
own-key law once apart client facts a s n b t m r q l u v =
    same_bool (same_key (key_of_request r s n) (key_of_request q t m)) (eqb a b)
    (λ e. eq-eqb a b (one-command law apart client facts a s n b t m r q l u v (same_key-is (key_of_request r s n) (key_of_request q t m) e)))
    (λ e.
    let same = eqb-true a b e in
    let one = one-key law once client facts a s n t m r q l u (subst (λ o. IsAttempt client facts o t m q) (sym same) v) in
    subst (λ k. same_key (key_of_request r s n) k ≡ true) one (same_key-self (key_of_request r s n)))
