-- What is due stands, and each arm leaves the pool behind it.
use Rattle.std.proofs.Common.{sym, ◌∙◌, refl, inl, inr}
use Rattle.pool_book.specs.declared.answers.Take.TheVariants.{Dial}
use Rattle.pool_book.proofs.AnswerLemmas.{Answers-by}
use Rattle.pool_book.proofs.book.PoolBook.try_take.Goals as goal

pub returns-in-Lent-clause-goes : goal.returns-in-Lent-clause-goes
returns-in-Lent-clause-goes c =
    Answers-by _ _ _ _ (sym c.ticket.ensures ∙ c.in-Some.is) c.requires.swept _ c.answer-answer.ensures _ (rw c.in-Lent.is (c.lend.ensures c.args.moment c.in-Lent.conn))

pub returns-in-Dial-clause-goes : goal.returns-in-Dial-clause-goes
returns-in-Dial-clause-goes c =
    Answers-by _ _ _ _ (sym c.ticket.ensures ∙ c.in-Some.is) c.requires.swept (Dial c.in-Dial.conn) c.in-Dial.ensures _ (c.dial.ensures c.args.moment)

pub returns-in-Cleared-clause-goes : goal.returns-in-Cleared-clause-goes
returns-in-Cleared-clause-goes c =
    Answers-by _ _ _ _ (sym c.ticket.ensures ∙ c.in-Some.is) c.requires.swept _ c.answer-answer.ensures _
    (elim c.in-Cleared.is [
      | inl w ↦ rw w.1 c.refuse.ensures
      | inr v ↦ elim v [ inl e ↦ rw e c.refuse.ensures | inr e ↦ rw e c.refuse.ensures ]
    ])

pub returns-in-Wait-clause-goes : goal.returns-in-Wait-clause-goes
returns-in-Wait-clause-goes c =
    Answers-by _ _ _ _ (sym c.ticket.ensures ∙ c.in-Some.is) c.requires.swept _ c.answer-answer.ensures _ (rw c.in-Wait.is refl)
