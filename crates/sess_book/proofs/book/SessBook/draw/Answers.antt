use Rattle.std.proofs.Common.{◌≡◌, ◌≢◌, Some, length, refl, sym, ◌∙◌, ap, subst, arith}
use Rattle.std.specs.Prelude.{slice_get}
use Rattle.std.proofs.lemmas.Int.{to_z-of_z}
use Rattle.sess_book.specs.Inside.{IsSound, sessions_of}
use Rattle.sess_book.specs.Sessions.{is_used, MOST}
use Rattle.sess_book.proofs.ListLemmas.{length-set}
use Rattle.sess_book.proofs.SoundLemmas.{drew-sound}
use Rattle.sess_book.proofs.BookLemmas.{is_used-set, drew-goes}
use Rattle.sess_book.proofs.book.SessBook.draw.Goals as goal

pub draw_at-number-requires : goal.draw_at-number-requires
draw_at-number-requires c =
    let x = c.requires.session in
    let there = subst (λ s. slice_get s.made c.args.lease.now.place ≡ Some x) (sym c.self.view_is) c.requires.there in
    (x, there, c.self.invariant.sound.numbers c.args.lease.now.place x there c.requires.held)

-- the session that is drawn from stands in the book
session_there : (c : goal.After-result-1) → slice_get c.self.inside.made.items c.args.lease.now.place ≡ Some c.requires.session
session_there c = subst (λ s. slice_get s.made c.args.lease.now.place ≡ Some c.requires.session) (sym c.self.view_is) c.requires.there

pub invariant_of-self : goal.invariant_of-self
invariant_of-self c =
    let x = c.requires.session in
    let place = c.args.lease.now.place in
    let there = session_there c in
    let made = c.draw_at-number.ensures.made x there in
    record {
      sound = subst (λ m. IsSound (record { made = m; kept = c.self.inside.kept.items; last = c.self.inside.last })) (sym made)
          (drew-sound (sessions_of c.self.inside) place x c.draw_at-number.result c.self.invariant.sound there c.requires.held);
      index = λ id. c.self.invariant.index id ∙ sym (is_used-set id c.self.inside.made.items place x _ there refl) ∙ ap (λ m. is_used id m) (sym made);
      room = let same = ap length made ∙ length-set c.self.inside.made.items place _ in let room = c.self.invariant.room in omega (arith, same, room);
    }

pub returns-clause-goes : goal.returns-clause-goes
returns-clause-goes c =
    let x = c.requires.session in
    let there = session_there c in
    let drew = drew-goes (sessions_of c.self.inside) c.args.self.now c.self.view_is c.args.lease.now.place x c.draw_at-number.result c.draw_at-number.new.made.items
    there c.requires.held (c.draw_at-number.ensures.number x there) (c.draw_at-number.ensures.made x there) in
    grind (arith, to_z-of_z, drew)
