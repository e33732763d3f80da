-- What a stream's requests are: those that entries say were asked on it; of a stream of checks, none of a command either way.
use Rattle.std.proofs.Common.{◌≡◌, ◌⊎◌, inl, inr, ℕ, zero, suc, Bool, true, false, ◌||◌, List, [], ◌∷◌, ◌++◌, Option, None, Some, refl, sym, ap, ◌∙◌, subst}
use Rattle.std.specs.Prelude.{map, nat_eq}
use Rattle.std.specs.List.{list_any}
use Rattle.std.proofs.lemmas.Bool.{eq-eqb}
use Rattle.std.proofs.lemmas.Bool.Decides.{eqb_tells}
use Rattle.std.proofs.lemmas.List.{append-nil}
use Rattle.entry_judge.specs.Groups.{Place}
use Rattle.pool_book.specs.Entries.{PoolEntry}
use Rattle.pool_book.specs.Pool.{Pool}
use Rattle.write_retry.specs.Machine.{allows}
use Rattle.write_retry.specs.declared.events.Next.TheVariants as next
use Rattle.write_retry.specs.declared.events.OpEvent.TheVariants as event
use Rattle.desk_trail.specs.declared.request.Purpose.{Purpose}
use Rattle.desk_trail.specs.declared.request.Purpose.TheVariants as purpose
use Rattle.desk_trail.specs.declared.request.Request.{Request}
use Rattle.desk_trail.specs.Attempts.{CommandAllows, asked_event, command_step}
use Rattle.desk_trail.specs.Checks.{IsNew, kept_at}
use Rattle.desk_trail.specs.Clients.{Client}
use Rattle.desk_trail.specs.Facts.{Fact}
use Rattle.desk_trail.specs.Facts as fact
use Rattle.desk_trail.specs.Legal.{IsLast, MayStand, Point, client_after}
use Rattle.desk_trail.specs.Orders.{asks_for}
use Rattle.desk_trail.specs.States.{ClientState, CommandState}
use Rattle.desk_trail.specs.Streams.{Account, conn_stream_at}
use Rattle.request_keys.specs.Requests.{last_of, requests_in}
use Rattle.effect_count.specs.Counts.{asks_at, begins_check}
use Rattle.effect_count.proofs.AccountLemmas.{IsOff, Speaks, asked-off, asked-own, asks-any, asks-on, leaves, none-waits, off, on, one_asked, speaks}
use Rattle.effect_count.proofs.KeepLemmas.{Asking, Keeps, Step, asking, command, conn-from, farewell, goes-on, hello, sent-sends}
use Rattle.effect_count.proofs.NewLemmas.{client-adds, new_streams, taken}
use Rattle.effect_count.proofs.OwedLemmas.{is_greeting_for}
use Rattle.effect_count.proofs.ServerLemmas.{begun-from, checks-from}
use Rattle.effect_count.proofs.UseLemmas.{IsKnown, begun-stream, known-first, known-more}

-- ---- No request of a command

abbrev is_command : Purpose → Bool
is_command (purpose.Command op) = true
is_command p = false

abbrev NoCommand : List Request → Type 0
NoCommand [] = Unit {0}
NoCommand (r ∷ rs) = (is_command r.purpose ≡ false) × NoCommand rs

no-append : (xs ys : List Request) → NoCommand xs → NoCommand ys → NoCommand (xs ++ ys)
no-append [] ys a b = b
no-append (x ∷ xs) ys a b = (a.0, no-append xs ys a.1 b)

no-front : (xs ys : List Request) → NoCommand (xs ++ ys) → NoCommand xs
no-front [] ys h = tt
no-front (x ∷ xs) ys h = (h.0, no-front xs ys h.1)

no-asks : (op : ℕ) (p : Purpose) → is_command p ≡ false → asks_for op p ≡ false
no-asks op (purpose.Command k) h = absurd (cc)
no-asks op (purpose.Check host) h = refl
no-asks op (purpose.Greeting host conn) h = refl
no-asks op purpose.Farewell h = refl

no-at : (rs : List Request) (nth op : ℕ) → NoCommand rs → asks_at rs nth op ≡ false
no-at [] nth op h = refl
no-at (r ∷ rs) zero op h = no-asks op r.purpose h.0
no-at (r ∷ rs) (suc nth) op h = no-at rs nth op h.1

greeting-not : (p : Purpose) → is_greeting_for p ≡ true → is_command p ≡ false
greeting-not (purpose.Check host) h = refl
greeting-not (purpose.Greeting host conn) h = refl
greeting-not (purpose.Command op) h = absurd (cc)
greeting-not purpose.Farewell h = absurd (cc)

-- ---- What a stream is

-- none dialled it yet; it is one of checks; or it is one of a connection
pub data Phase (w : ClientState) (s : ℕ) (a : Account) (asked : List Request) (checked : Bool) : Type 0 where
  fresh : list_any (nat_eq s) w.streams ≡ false → requests_in a ≡ [] → asked ≡ [] → Phase w s a asked checked
  checks : IsKnown w.streams s → ((host conn : ℕ) → conn_stream_at w host conn ≡ Some s → ⊥) → NoCommand (requests_in a) → NoCommand asked → checked ≡ true →
      Phase w s a asked checked
  conns : IsKnown w.streams s → ((host : ℕ) → kept_at w host ≡ Some s → ⊥) → requests_in a ≡ asked → Phase w s a asked checked

pub phase-fresh : (w : ClientState) (s : ℕ) (a : Account) (asked : List Request) (checked : Bool) → Phase w s a asked checked → list_any (nat_eq s) w.streams ≡ false → a.last ≡ None
phase-fresh w s a asked checked (fresh n ra un) h = none-waits a ra
phase-fresh w s a asked checked (checks known unused ra un so) h = absurd (let wrong : true ≡ false = sym known ∙ h in cc)
phase-fresh w s a asked checked (conns known kept eq) h = absurd (let wrong : true ≡ false = sym known ∙ h in cc)

-- the streams that an entry begins to use
data Begins (client : Client) (moment : ℕ) (w : ClientState) (f : Fact) (s : ℕ) : Type 0 where
  to_check : (host : ℕ) → f ≡ fact.CheckBegan host s → IsKnown (client_after client moment w f).streams s → Begins client moment w f s
  to_dial : (op host conn : ℕ) → f ≡ fact.Dialled op host conn (Some s) → IsKnown (client_after client moment w f).streams s → Begins client moment w f s
  unbegun : list_any (nat_eq s) (client_after client moment w f).streams ≡ false → Begins client moment w f s

one-more : (s n : ℕ) (ss : List ℕ) → list_any (nat_eq s) ss ≡ false → (list_any (nat_eq s) (n ∷ ss) ≡ false) ⊎ (s ≡ n)
one-more s n ss h = elim (eqb_tells s n) [
  | inl w ↦ inr w.1
  | inr w ↦ inl (ap (λ b. b || list_any (nat_eq s) ss) w.0 ∙ h)
]

begins-check-by : (client : Client) (moment : ℕ) (w : ClientState) (host n s : ℕ) → list_any (nat_eq s) w.streams ≡ false → (o : Option ℕ) → kept_at w host ≡ o →
    Begins client moment w (fact.CheckBegan host n) s
begins-check-by client moment w host n s h (Some kept) e =
    unbegun (ap (list_any (nat_eq s)) (client-adds client moment w (fact.CheckBegan host n) ∙ ap (λ o. taken o n ++ w.streams) e) ∙ h)
begins-check-by client moment w host n s h None e =
    let now : (client_after client moment w (fact.CheckBegan host n)).streams ≡ n ∷ w.streams = client-adds client moment w (fact.CheckBegan host n) ∙ ap (λ o. taken o n ++ w.streams) e in
    elim (one-more s n w.streams h) [
      | inl un ↦ unbegun (ap (list_any (nat_eq s)) now ∙ un)
      | inr same ↦ to_check host (ap (fact.CheckBegan host) (sym same)) (subst (λ ss. IsKnown ss s) (sym now) (known-first w.streams s n same))
    ]

begins : (client : Client) (moment : ℕ) (w : ClientState) (f : Fact) (s : ℕ) → list_any (nat_eq s) w.streams ≡ false → Begins client moment w f s
begins client moment w (fact.CheckBegan host n) s h = begins-check-by client moment w host n s h (kept_at w host) refl
begins client moment w (fact.Dialled op host conn None) s h = unbegun (ap (list_any (nat_eq s)) (client-adds client moment w (fact.Dialled op host conn None)) ∙ h)
begins client moment w (fact.Dialled op host conn (Some n)) s h =
    let now : (client_after client moment w (fact.Dialled op host conn (Some n))).streams ≡ n ∷ w.streams = client-adds client moment w (fact.Dialled op host conn (Some n)) in
    elim (one-more s n w.streams h) [
      | inl un ↦ unbegun (ap (list_any (nat_eq s)) now ∙ un)
      | inr same ↦ to_dial op host conn (ap (λ m. fact.Dialled op host conn (Some m)) (sym same)) (subst (λ ss. IsKnown ss s) (sym now) (known-first w.streams s n same))
    ]
begins client moment w f s h = unbegun (ap (list_any (nat_eq s)) (client-adds client moment w f) ∙ h)

known-append : (xs ss : List ℕ) (s : ℕ) → IsKnown ss s → IsKnown (xs ++ ss) s
known-append [] ss s k = k
known-append (x ∷ xs) ss s k = known-more (xs ++ ss) s x (known-append xs ss s k)

known-after : (client : Client) (moment : ℕ) (w : ClientState) (f : Fact) (s : ℕ) → IsKnown w.streams s → IsKnown (client_after client moment w f).streams s
known-after client moment w f s k = subst (λ ss. IsKnown ss s) (sym (client-adds client moment w f)) (known-append (new_streams w f) w.streams s k)

or-true : (b : Bool) → (b || true) ≡ true
or-true true = refl
or-true false = refl

-- ---- Behind one entry more

module _ (client : Client) (p : Point) (moment : ℕ) (f : Fact) (old new : ℕ → Place Pool PoolEntry) (s : ℕ) (a b : Account) (i : Step client p moment f old new s a b) (k : Keeps p old s a)
    (asked : List Request) (checked : Bool) where
  -- no stream that is known is a new one
  not-new : IsKnown p.state.streams s → IsNew p.state s → ⊥
  not-new known isnew = let un : true ≡ false = sym known ∙ isnew in absurd (cc)

  conns-none : IsKnown p.state.streams s → ((host conn : ℕ) → conn_stream_at p.state host conn ≡ Some s → ⊥) →
      (host conn : ℕ) → conn_stream_at (client_after client moment p.state f) host conn ≡ Some s → ⊥
  conns-none known n host conn at = elim (conn-from client moment p.state f host conn s at) [
    | inl c ↦ n host conn c
    | inr c ↦ not-new known (subst (MayStand client p moment) c.1 i.rule).0
  ]

  kept-none : IsKnown p.state.streams s → ((host : ℕ) → kept_at p.state host ≡ Some s → ⊥) → (host : ℕ) → kept_at (client_after client moment p.state f) host ≡ Some s → ⊥
  kept-none known n host at = by f refl
    where
      begun : (x m : ℕ) → f ≡ fact.CheckBegan x m → ⊥
      begun x m is =
          let rule = subst (MayStand client p moment) is i.rule in
          let at2 = subst (λ g. kept_at (client_after client moment p.state g) host ≡ Some s) is at in
          elim (begun-from client moment p.state x m host s at2) [
            | inl c ↦ n host c
            | inr c ↦ elim (begun-stream client p moment x m rule) [
              | inl u ↦ not-new known (subst (IsNew p.state) (sym c.1) u.1)
              | inr u ↦ n x (u ∙ ap (λ y. Some y) (sym c.1))
            ]
          ]

      by : (g : Fact) → f ≡ g → ⊥
      by (fact.CheckBegan x m) is = begun x m is
      by g is = n host (subst (λ h. kept_at (client_after client moment p.state h) host ≡ Some s → kept_at p.state host ≡ Some s) (sym is) (checks-from client moment p.state g host s refl) at)

  -- no request on the stream
  off-phase : IsOff s f → Phase p.state s a asked checked → Phase (client_after client moment p.state f) s b (asked ++ one_asked s f) (checked || begins_check s f)
  off-phase n ph = by ph
    where
      same : requests_in b ≡ requests_in a
      same = ap requests_in i.tells ∙ (leaves client p.state moment s f a n).requests

      few : asked ++ one_asked s f ≡ asked
      few = ap (λ xs. asked ++ xs) (asked-off s f n) ∙ append-nil asked

      begun : requests_in a ≡ [] → asked ≡ [] → list_any (nat_eq s) p.state.streams ≡ false → Begins client moment p.state f s →
          Phase (client_after client moment p.state f) s b (asked ++ one_asked s f) (checked || begins_check s f)
      begun ra un isnew (unbegun h) = fresh h (same ∙ ra) (few ∙ un)
      begun ra un isnew (to_check host is known) =
          checks known
          (λ h c at. elim (conn-from client moment p.state f h c s at) [
            | inl x ↦ not-new (k.uses.conns h c s x) isnew
            | inr x ↦ absurd (let wrong = sym is ∙ x.1 in cc)
          ])
          (subst NoCommand (sym (same ∙ ra)) tt) (subst NoCommand (sym (few ∙ un)) tt)
          (ap (λ g. checked || begins_check s g) is ∙ ap (λ c. checked || c) (eq-eqb s s refl) ∙ or-true checked)
      begun ra un isnew (to_dial op host conn is known) =
          conns known
          (λ h at. not-new (k.uses.checks h s (subst (λ g. kept_at (client_after client moment p.state g) h ≡ Some s → kept_at p.state h ≡ Some s) (sym is)
          (checks-from client moment p.state (fact.Dialled op host conn (Some s)) h s refl) at)) isnew)
          (same ∙ ra ∙ sym (few ∙ un))

      by : Phase p.state s a asked checked → Phase (client_after client moment p.state f) s b (asked ++ one_asked s f) (checked || begins_check s f)
      by (fresh isnew ra un) = begun ra un isnew (begins client moment p.state f s isnew)
      by (checks known none ra un so) =
          checks (known-after client moment p.state f s known) (conns-none known none) (subst NoCommand (sym same) ra) (subst NoCommand (sym few) un)
          (ap (λ c. c || begins_check s f) so)
      by (conns known kept eq) = conns (known-after client moment p.state f s known) (kept-none known kept) (same ∙ eq ∙ sym few)

  -- a request on it
  on-phase : (place : ℕ) (r : Request) → f ≡ fact.Asked place r → r.stream ≡ s → Phase p.state s a asked checked →
      Phase (client_after client moment p.state f) s b (asked ++ one_asked s f) (checked || begins_check s f)
  on-phase place r is own ph = by ph (asking client p old moment s a f place r is own i.rule i.turn i.at k)
    where
      more : asked ++ one_asked s f ≡ asked ++ r ∷ []
      more = ap (λ xs. asked ++ xs) (asked-own s f place r is own)

      -- where nothing waited it comes behind the others
      behind : a.last ≡ None → requests_in a ≡ asked → requests_in b ≡ asked ++ one_asked s f
      behind h eq = ap requests_in i.tells ∙ asks-on client p.state moment s f a place r is own h ∙ ap (λ xs. xs ++ r ∷ []) eq ∙ sym more

      waited : ((host : ℕ) → kept_at p.state host ≡ Some s → ⊥) → Asking p old s a r → a.last ≡ None
      waited kept (command op c host ticket conn to there out at) =
          let al : CommandAllows p.state (asked_event r.purpose) = subst (λ g. CommandAllows p.state (command_step client p.state g)) is i.command in
          let al2 : CommandAllows p.state (Some (op, event.Sent)) = subst (λ u. CommandAllows p.state (asked_event u)) to al in
          let both : Some al2.0 ≡ Some c = sym al2.1 ∙ there in
          let one : al2.0 ≡ c = (cc) in
          let send : c.op.next ≡ next.Send = sent-sends c.op.next (subst (λ (x : CommandState). allows x.op.next event.Sent ≡ true) one al2.2) in
          let going = goes-on p.state.is_ending f (λ l. let wrong : purpose.Command op ≡ purpose.Farewell = sym to ∙ subst IsLast is l in absurd (cc)) i.going in
          k.sent going op c host ticket conn there out at send
      waited kept (farewell host conn to at avail unused) = elim (k.available host conn at avail) [
        | inl h ↦ h
        | inr told ↦ absurd (let wrong : true ≡ false = sym told.1 ∙ unused in cc)
      ]
      waited kept (hello to g) = elim (g.own refl) [
        | inl x ↦ absurd (kept x.0 x.1)
        | inr x ↦ x.last
      ]

      of-stream : Asking p old s a r → IsKnown p.state.streams s
      of-stream (command op c host ticket conn to there out at) = k.uses.conns host conn s at
      of-stream (farewell host conn to at avail unused) = k.uses.conns host conn s at
      of-stream (hello to g) = g.known

      by : Phase p.state s a asked checked → Asking p old s a r → Phase (client_after client moment p.state f) s b (asked ++ one_asked s f) (checked || begins_check s f)
      by (fresh isnew ra un) q = absurd (not-new (of-stream q) isnew)
      by (checks known none ra un so) (command op c host ticket conn to there out at) = absurd (none host conn at)
      by (checks known none ra un so) (farewell host conn to at avail unused) = absurd (none host conn at)
      by (checks known none ra un so) (hello to g) =
          let one : NoCommand (r ∷ []) = (greeting-not r.purpose to, tt) in
          let all = asks-any client p.state moment s f a place r is own in
          checks (known-after client moment p.state f s known) (conns-none known none)
          (subst NoCommand (sym (ap requests_in i.tells ∙ all)) (no-append (map (λ x. x.request) a.answered) (r ∷ []) (no-front (map (λ x. x.request) a.answered) (last_of a.last) ra) one))
          (subst NoCommand (sym more) (no-append asked (r ∷ []) un one)) (ap (λ c. c || begins_check s f) so)
      by (conns known kept eq) q = conns (known-after client moment p.state f s known) (kept-none known kept) (behind (waited kept q) eq)

  pub phase-step : Phase p.state s a asked checked → Phase (client_after client moment p.state f) s b (asked ++ one_asked s f) (checked || begins_check s f)
  phase-step ph = by (speaks s f)
    where
      by : Speaks s f → Phase (client_after client moment p.state f) s b (asked ++ one_asked s f) (checked || begins_check s f)
      by (off n) = off-phase n ph
      by (on place r is own) = on-phase place r is own ph

-- ---- What follows

pub phase-same : (w : ClientState) (s : ℕ) (a : Account) (asked : List Request) (checked : Bool) → Phase w s a asked checked → checked ≡ false → requests_in a ≡ asked
phase-same w s a asked checked (fresh n ra un) h = ra ∙ sym un
phase-same w s a asked checked (checks known none ra un so) h = absurd (let wrong : true ≡ false = sym so ∙ h in cc)
phase-same w s a asked checked (conns known kept eq) h = eq

pub phase-asks : (w : ClientState) (s : ℕ) (a : Account) (asked : List Request) (checked : Bool) (nth op : ℕ) → Phase w s a asked checked →
    asks_at (requests_in a) nth op ≡ asks_at asked nth op
phase-asks w s a asked checked nth op (fresh n ra un) = ap (λ rs. asks_at rs nth op) (ra ∙ sym un)
phase-asks w s a asked checked nth op (checks known none ra un so) = no-at (requests_in a) nth op ra ∙ sym (no-at asked nth op un)
phase-asks w s a asked checked nth op (conns known kept eq) = ap (λ rs. asks_at rs nth op) eq
