use Rattle.std.proofs.Common.{◌≡◌, ◌≢◌, ◌<◌, ◌≤◌, ◌-◌, true, Some, length, take, refl, sym, ◌∙◌, ap, subst, arith}
use Rattle.std.specs.Prelude.{slice_get, slice_set}
use Rattle.std.proofs.lemmas.Option.{get_or_from_slice_get, slice_get_within}
use Rattle.sess_book.specs.declared.session.Kept.{Kept}
use Rattle.sess_book.specs.declared.session.Holding.TheVariants as holding
use Rattle.sess_book.specs.Inside.{IsSound, IsFree, sessions_of}
use Rattle.sess_book.specs.Sessions.{is_used, newest, has_minute_left}
use Rattle.sess_book.proofs.ListLemmas.{length-set, slice_get-set_same}
use Rattle.sess_book.proofs.SoundLemmas.{reused-sound}
use Rattle.sess_book.proofs.BookLemmas.{is_used-set, reused-goes}
use Rattle.sess_book.proofs.book.SessBook.lease_again.Goals as goal

-- the session that was taken off is the newest, which has a minute left
newest_there : (c : goal.After-self-1) → (newest (sessions_of c.self.inside) ≡ Some c.in-Some.kept) × (has_minute_left c.args.minutes c.args.moment c.in-Some.kept ≡ true)
newest_there c =
    let b = sessions_of c.self.inside in
    let k = c.requires.left.0 in
    let n = length b.kept - 1 in
    let old : newest b ≡ Some k = subst (λ s. newest s ≡ Some k) (sym c.self.view_is) c.requires.left.1 in
    let within = slice_get_within b.kept n k old in
    let got = c.pop.ensures.value k (omega (arith, within)) in
    let here = get_or_from_slice_get b.kept n k k old in
    let is = c.in-Some.is in
    let one : k ≡ c.in-Some.kept = cc in
    (subst (λ z. newest b ≡ Some z) one old, subst (λ z. has_minute_left c.args.minutes c.args.moment z ≡ true) one c.requires.left.2)

-- the rest of those that are kept
rest_there : (c : goal.After-self-1) → c.pop.new.self.items ≡ take (length c.self.inside.kept.items - 1) c.self.inside.kept.items
rest_there c = c.pop.ensures.rest ∙ ap (λ n. take (n - 1) c.self.inside.kept.items) c.self.inside.kept.ok.0

-- it is free
free_there : (c : goal.After-self-1) → IsFree c.self.inside.made.items c.in-Some.kept.place
free_there c = c.self.invariant.sound.free (length c.self.inside.kept.items - 1) c.in-Some.kept (newest_there c).0

pub invariant_of-self : goal.invariant_of-self
invariant_of-self c =
    let b = sessions_of c.self.inside in
    let k = c.in-Some.kept in
    let moment = c.args.moment in
    let free = free_there c in
    let x = free.0 in
    let made = c.hold_at-lsid.ensures.made x free.1 in
    let late = subst (λ s. s.last ≤ moment) (sym c.self.view_is) c.requires.late in
    record {
      sound =
          subst (λ m. IsSound (record { made = m; kept = c.pop.new.self.items; last = moment })) (sym made)
          (subst (λ ks. IsSound (record { made = slice_set b.made k.place (record x { holding = holding.Leased }); kept = ks; last = moment })) (sym (rest_there c))
          (reused-sound b moment k x c.self.invariant.sound late (newest_there c).0 free.1 free.2 free.3));
      index = λ id. c.self.invariant.index id ∙ sym (is_used-set id b.made k.place x (record x { holding = holding.Leased }) free.1 refl) ∙ ap (λ m. is_used id m) (sym made);
      room =
          let same = ap length made ∙ length-set b.made k.place (record x { holding = holding.Leased }) in
          let room = c.self.invariant.room in
          let kept_room = c.pop.ensures.capacity in
          omega (arith, same, room, kept_room);
    }

pub returns-clause-goes : goal.returns-clause-goes
returns-clause-goes c =
    let free = free_there c in
    reused-goes (sessions_of c.self.inside) c.args.self.now c.self.view_is c.in-Some.kept free.0 c.args.moment c.args.minutes c.hold_at-lsid.new.made.items
    c.pop.new.self.items c.requires.late (newest_there c).0 (newest_there c).1 free.1 (c.hold_at-lsid.ensures.made free.0 free.1) (rest_there c)

pub returns-clause-one : goal.returns-clause-one
returns-clause-one c =
    let free = free_there c in
    let x = free.0 in
    let made = c.hold_at-lsid.ensures.made x free.1 in
    record {
      session = record x { holding = holding.Leased };
      there = ap (λ m. slice_get m c.in-Some.kept.place) made
          ∙ slice_get-set_same c.self.inside.made.items c.in-Some.kept.place (record x { holding = holding.Leased }) x free.1;
      same = c.hold_at-lsid.ensures.id x free.1;
    }
