-- What an entry alone shows, and what it tells.
use Rattle.std.proofs.Common.{◌≡◌, ℕ, suc, Bool, true, false, List, [], ◌∷◌, Option, None, Some, refl, sym, ap, ◌∙◌, subst, arith}
use Rattle.std.specs.Prelude.{Contains, option_to_list, slice_get}
use Rattle.std.specs.Option.{option_map}
use Rattle.drv_events.specs.declared.event.Event.{Event}
use Rattle.drv_events.specs.declared.event.Event.TheVariants as event
use Rattle.write_retry.specs.declared.attempt_end.AttemptEnd.{AttemptEnd}
use Rattle.write_retry.specs.declared.attempt_end.AttemptEnd.TheVariants as attempt
use Rattle.desk_trail.specs.declared.entry.CheckHow.{CheckHow}
use Rattle.desk_trail.specs.declared.entry.Entry.{Entry}
use Rattle.desk_trail.specs.declared.entry.Entry.TheVariants as entry
use Rattle.desk_trail.specs.declared.entry.OfferedHow.{OfferedHow}
use Rattle.desk_trail.specs.declared.entry.OfferedHow.TheVariants as offered
use Rattle.desk_trail.specs.Facts.{Fact, Lists, fact_of}
use Rattle.desk_trail.specs.Facts as fact
use Rattle.trail_events.specs.Alone.{event_alone, last_of}
use Rattle.trail_events.specs.Told.{check_tells, end_tells, offer_tells, settled_tells, tells}

-- ---- Where one event is told at most, it is the one that the entry shows

IsLone : List Event → Type 0
IsLone es = es ≡ option_to_list (last_of es)

offer-lone : (taken : OfferedHow) → offer_tells taken ≡ option_to_list (last_of (offer_tells taken))
offer-lone (offered.Accepted true) = refl
offer-lone (offered.Accepted false) = refl
offer-lone offered.Gone = refl
offer-lone offered.StaleVersion = refl
offer-lone offered.StaleGeneration = refl

settled-lone : (host conn : ℕ) (stale : Bool) → settled_tells host conn stale ≡ option_to_list (last_of (settled_tells host conn stale))
settled-lone host conn true = refl
settled-lone host conn false = refl

end-lone : (op : ℕ) (end : AttemptEnd) → end_tells op end ≡ option_to_list (last_of (end_tells op end))
end-lone op (attempt.Replied reading) = refl
end-lone op (attempt.Unsent u) = refl
end-lone op e = refl

as-told : (w : Bool) (es : List Event) (f g : Fact) → Some g ≡ Some f → tells w g ≡ es → tells w f ≡ es
as-told w es f g is told = let same : g ≡ f = cc in subst (λ (h : Fact). tells w h ≡ es) same told

at-told : {A : Type 0} (w : Bool) (es : List Event) (f : Fact) (make : A → Fact) → ((x : A) → tells w (make x) ≡ es) → (o : Option A) → option_map make o ≡ Some f →
    tells w f ≡ es
at-told w es f make told None is = absurd (let never : ⊥ = cc in never)
at-told w es f make told (Some x) is = as-told w es f (make x) is (told x)

pub alone-told : (l : Lists) (w : Bool) (e : Entry) (f : Fact) → ((host : ℕ) → e ≡ entry.Named host → ⊥) → ((host : ℕ) → e ≡ entry.PoolClear host → ⊥) →
    ((host : ℕ) (how : CheckHow) → e ≡ entry.CheckEnded host how → ⊥) → ((place : ℕ) → e ≡ entry.Asked place → ⊥) → fact_of l e ≡ Some f →
    tells w f ≡ option_to_list (event_alone e)
alone-told l w (entry.Named host) f a b c d is = absurd (a host refl)
alone-told l w (entry.PoolClear host) f a b c d is = absurd (b host refl)
alone-told l w (entry.CheckEnded host how) f a b c d is = absurd (c host how refl)
alone-told l w (entry.Asked place) f a b c d is = absurd (d place refl)
alone-told l w (entry.Offered place taken) f a b c d is =
    at-told w (option_to_list (last_of (offer_tells taken))) f (λ x. fact.Offered place x taken) (λ x. offer-lone taken) (slice_get l.events place) is
alone-told l w (entry.Leased op place fresh) f a b c d is = at-told w [] f (λ x. fact.Leased op place x fresh) (λ x. refl) (slice_get l.sessions place) is
alone-told l w (entry.Settled op host conn stale) f a b c d is =
    as-told w (option_to_list (last_of (settled_tells host conn stale))) f (fact.Settled op host conn stale) is (settled-lone host conn stale)
alone-told l w (entry.Ended op end) f a b c d is = as-told w (option_to_list (last_of (end_tells op end))) f (fact.Ended op end) is (end-lone op end)
alone-told l w e f a b c d is = as-told w (option_to_list (event_alone e)) f _ is refl

-- ---- It is among those that the entry tells

first-among : (x : Event) (xs : List Event) → Contains (x ∷ xs) x
first-among x xs = (0, omega arith, refl)

last-among : (xs : List Event) (x : Event) → last_of xs ≡ Some x → Contains xs x
last-among [] x is = absurd (let never : ⊥ = cc in never)
last-among (y ∷ []) x is = let same : y ≡ x = cc in subst (λ (z : Event). Contains (y ∷ []) z) same (first-among y [])
last-among (y ∷ (z ∷ zs)) x is = let rest = last-among (z ∷ zs) x is in (suc rest.0, omega (arith, rest.1), rest.2)

as-among : (w : Bool) (x : Event) (f g : Fact) → Some g ≡ Some f → Contains (tells w g) x → Contains (tells w f) x
as-among w x f g is among = let same : g ≡ f = cc in subst (λ (h : Fact). Contains (tells w h) x) same among

at-among : {A : Type 0} (w : Bool) (x : Event) (f : Fact) (make : A → Fact) → ((y : A) → Contains (tells w (make y)) x) → (o : Option A) → option_map make o ≡ Some f →
    Contains (tells w f) x
at-among w x f make among None is = absurd (let never : ⊥ = cc in never)
at-among w x f make among (Some y) is = as-among w x f (make y) is (among y)

lone-among : (w : Bool) (x : Event) (f : Fact) (o : Option Event) → tells w f ≡ option_to_list o → o ≡ Some x → Contains (tells w f) x
lone-among w x f o told is = subst (λ (es : List Event). Contains es x) (sym (told ∙ ap option_to_list is)) (first-among x [])

pub alone-among : (l : Lists) (e : Entry) (f : Fact) (w : Bool) (x : Event) → fact_of l e ≡ Some f → event_alone e ≡ Some x → Contains (tells w f) x
alone-among l (entry.Named host) f w x is shows =
    let same : event.ServerOpened host ≡ x = cc in
    at-among w x f (λ a. fact.Named host a)
    (λ a. subst (λ (y : Event). Contains (event.ServerOpened host ∷ event.PoolCreated host ∷ []) y) same (first-among (event.ServerOpened host) (event.PoolCreated host ∷ [])))
    (slice_get l.names host) is
alone-among l (entry.CheckEnded host how) f w x is shows = as-among w x f (fact.CheckEnded host how) is (last-among (check_tells host how) x shows)
alone-among l (entry.PoolClear host) f w x is shows = absurd (let never : ⊥ = cc in never)
alone-among l (entry.Asked place) f w x is shows = absurd (let never : ⊥ = cc in never)
alone-among l e f w x is shows = lone-among w x f (event_alone e) (alone-told l w e f (λ h q. cc) (λ h q. cc) (λ h a q. cc) (λ p q. cc) is) shows
