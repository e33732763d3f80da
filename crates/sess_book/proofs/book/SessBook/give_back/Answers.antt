use Rattle.std.proofs.Common.{◌≡◌, ◌≢◌, ◌≤◌, ◌++◌, true, Some, length, refl, sym, ◌∙◌, ap, subst, arith}
use Rattle.std.specs.Prelude.{slice_get, slice_set}
use Rattle.std.proofs.lemmas.Int.{to_z-of_z}
use Rattle.std.proofs.lemmas.Option.{get_or_from_slice_get}
use Rattle.sess_book.specs.declared.session.Holding.TheVariants as holding
use Rattle.sess_book.specs.Entries.{kept_again}
use Rattle.sess_book.specs.Inside.{IsSound, sessions_of}
use Rattle.sess_book.specs.Sessions.{is_kept, is_used}
use Rattle.sess_book.proofs.ListLemmas.{length-set}
use Rattle.sess_book.proofs.SoundLemmas.{returned-sound, is_kept-left}
use Rattle.sess_book.proofs.BookLemmas.{is_used-set, returned-goes, room-out}
use Rattle.sess_book.proofs.book.SessBook.give_back.Goals as goal

pub keep_if-requires : goal.keep_if-requires
keep_if-requires c =
    let h = c.requires.held.2 in
    let x = h.session in
    let there = subst (λ s. slice_get s.made c.args.lease.place ≡ Some x) (sym c.self.view_is) h.there in
    let held : x.holding ≢ holding.Nobody = λ e. c.requires.held.1 (sym h.held ∙ e) in
    let out = room-out (sessions_of c.self.inside) c.self.invariant.sound c.args.lease.place x there held in
    let room = c.self.invariant.room in
    omega (arith, room, out)

-- the session that is given back stands in the book, and is held
session_there : (c : goal.After-self-1) → slice_get c.self.inside.made.items c.args.lease.place ≡ Some c.requires.held.2.session
session_there c = subst (λ s. slice_get s.made c.args.lease.place ≡ Some c.requires.held.2.session) (sym c.self.view_is) c.requires.held.2.there

session_held : (c : goal.After-self-1) → c.requires.held.2.session.holding ≢ holding.Nobody
session_held c e = c.requires.held.1 (sym c.requires.held.2.held ∙ e)

-- whether it is kept is read off that session
keeps : (c : goal.After-self-1) → c.is_kept-kept.result ≡ is_kept c.args.dirty c.requires.held.2.session.number
keeps c =
    let x = c.requires.held.2.session in
    let one : c.index.result.now ≡ x =
    c.index.ensures ∙ get_or_from_slice_get c.self.inside.made.items c.args.lease.place x c.index.result.now (session_there c) in
    let told = c.is_kept-kept.ensures in
    grind (arith, to_z-of_z, told, one)

pub invariant_of-self : goal.invariant_of-self
invariant_of-self c =
    let b = sessions_of c.self.inside in
    let x = c.requires.held.2.session in
    let place = c.args.lease.place in
    let moment = c.args.moment in
    let there = session_there c in
    let made = c.hold_at.ensures.made x there in
    let late = subst (λ s. s.last ≤ moment) (sym c.self.view_is) c.requires.late in
    record {
      sound =
          subst (λ m. IsSound (record { made = m; kept = c.keep_if.new.kept.items; last = moment })) (sym made)
          (subst (λ k. IsSound (record { made = slice_set b.made place (record x { holding = holding.Nobody }); kept = k; last = moment })) (sym c.keep_if.ensures.kept)
          (returned-sound b place x moment c.is_kept-kept.result c.self.invariant.sound there (session_held c) late
          (λ kept. is_kept-left c.args.dirty x.number (sym (keeps c) ∙ kept))));
      index = λ id. c.self.invariant.index id ∙ sym (is_used-set id b.made place x (record x { holding = holding.Nobody }) there refl) ∙ ap (λ m. is_used id m) (sym made);
      room =
          let same = ap length made ∙ length-set b.made place (record x { holding = holding.Nobody }) in
          let room = c.self.invariant.room in
          let kept_room = c.keep_if.ensures.room in
          omega (arith, same, room, kept_room);
    }

pub returns : goal.returns
returns c =
    let x = c.requires.held.2.session in
    returned-goes (sessions_of c.self.inside) c.args.self.now c.self.view_is c.args.lease.place x c.args.moment c.args.dirty c.is_kept-kept.result
    c.hold_at.new.made.items c.keep_if.new.kept.items c.requires.late (session_there c) (session_held c) (keeps c)
    (c.hold_at.ensures.made x (session_there c)) c.keep_if.ensures.kept
