use Rattle.std.proofs.Common.{◌≡◌, ◌≢◌, ◌∙◌, ◌⊎◌, inl, inr, Some, Result, Err, sym, ap, subst}
use Rattle.norm_send_rules.specs.SenderState.{SenderState}
use Rattle.norm_send_rules.specs.Streaming.{cut}
use Rattle.mark_book.specs.Answers.{asked_for}
use Rattle.norm_send_rules.specs.declared.job.Receipt.{Receipt}
use Rattle.norm_send_rules.specs.declared.fault.MarkFault.{MarkFault}
use Rattle.norm_send_rules.specs.declared.fault.MarkFault.TheVariants.{Memory}
use Rattle.mark_book.specs.BookState.{BookState, Stands as BookStands}
use Rattle.norm_sender.specs.Inside.{kept_of}
use Rattle.norm_sender.specs.SenderKept.{SenderKept, Agrees}
use Rattle.norm_sender.specs.SenderMoves.{with_book}
use Rattle.norm_sender.specs.Retiring.{CanCut}
use Rattle.norm_sender.specs.declared.parts.Parts.{Parts}
use Rattle.norm_sender.proofs.FollowingLemmas.{unfollowed_book}
use Rattle.norm_sender.proofs.SenderLemmas.{anyone}
use Rattle.norm_sender.proofs.MarkingLemmas.{asked_refused, asked_given, joined_by, as_numbered, as_receipt, memory_fault}
use Rattle.norm_sender.proofs.StreamingLemmas.{behind_here, here_again, book_cut, other_book}
use Rattle.norm_sender.proofs.parts.Parts.mark_at.Goals as goal

pub cut-requires : goal.cut-requires
cut-requires c =
    let k = kept_of c.args.self.now in
    let s = c.requires.state in
    let h = c.requires.stands in
    let listed = c.request.ensures.stands k.p s anyone h.book (λ e. absurd (cc)) in
    let ahead : SenderState = (asked_for k.p s anyone c.args.quorum (Some c.args.at)).0 in
    record { state = s; ahead = ahead; behind = other_book k c.request.new.self s ahead h listed.0 }

pub cut_unless_memory-requires : goal.cut_unless_memory-requires
cut_unless_memory-requires c = by (memory_fault c.in-Err.fault)
  where
    k : SenderKept
    k = kept_of c.args.self.now

    s : SenderState
    s = c.requires.state

    h : Agrees k s
    h = c.requires.stands

    by : (c.in-Err.fault ≡ Memory) ⊎ (c.in-Err.fault ≢ Memory) → CanCut (record k { book = c.request.new.self })
    by (inl lacking) =
        let same : c.request.new.self ≡ c.args.self.now.book = c.request.ensures.memory (c.in-Err.is ∙ ap (λ (f : MarkFault). Err f) lacking) in
        record { state = s; ahead = s; behind = subst (λ (b : BookState). Rattle.norm_sender.specs.SenderMoves.IsBehind (record k { book = b }) s s) (sym same) (behind_here k s h) }
    by (inr some) =
        let listed = c.request.ensures.stands k.p s anyone h.book (λ e. some (as_fault c.in-Err.fault Memory (sym c.in-Err.is ∙ e))) in
        let ahead : SenderState = (asked_for k.p s anyone c.args.quorum (Some c.args.at)).0 in
        record { state = s; ahead = ahead; behind = other_book k c.request.new.self s ahead h listed.0 }
      where
        as_fault : (f g : MarkFault) → ◌≡◌ {A = Result Rattle.std.specs.Prelude.ℕ MarkFault} (Err f) (Err g) → f ≡ g
        as_fault f g e = cc

pub returns-in-Err-clause-stands : goal.returns-in-Err-clause-stands
returns-in-Err-clause-stands c s by h some =
    let k = kept_of c.args.self.now in
    let t = cut k.p s in
    let listed = c.request.ensures.stands k.p t by (book_cut k.p s k.book h.book) (λ e. some (as_receipt c.in-Err.fault Memory (sym c.in-Err.is ∙ e))) in
    let done = asked_refused k.p t by c.args.quorum c.args.at c.in-Err.fault (sym c.in-Err.is ∙ listed.1) in
    let book = subst (λ (step : SenderState × Result Receipt MarkFault). BookStands k.p c.request.new.self step.0) done listed.0 in
    let after = here_again (kept_of c.cut_unless_memory.new.self) t
    (c.cut_unless_memory.ensures.cut (λ e. some (ap (λ (f : MarkFault). Err f) e)) s t (other_book k c.request.new.self s t h book)) in (
      subst (λ (step : SenderState × Result Receipt MarkFault). Agrees (kept_of c.cut_unless_memory.new.self) step.0) (sym done) after,
      sym (ap (λ (step : SenderState × Result Receipt MarkFault). step.1) done),
    )

pub returns-in-Ok-clause-stands : goal.returns-in-Ok-clause-stands
returns-in-Ok-clause-stands c s by h some =
    let k = kept_of c.args.self.now in
    let s' = cut k.p s in
    let listed = c.request.ensures.stands k.p s' by (book_cut k.p s k.book h.book) (λ e. absurd (cc)) in
    let done = asked_given k.p s' by c.args.quorum c.args.at c.in-Ok.mark (sym c.in-Ok.is ∙ listed.1) in
    let t = joined_by by c.args.quorum c.args.at s' in
    let book = unfollowed_book k.p c.request.new.self s' t
    (subst (λ (step : SenderState × Result Receipt MarkFault). BookStands k.p c.request.new.self step.0) done listed.0) in (
      subst (λ (step : SenderState × Result Receipt MarkFault). Agrees (kept_of c.follow.new.self) step.0) (sym done)
          (c.follow.ensures.stands s' t (c.cut.ensures.stands s (with_book t s') (other_book k c.request.new.self s (with_book t s') h book))
          (c.oldest-before.ensures k.p s' (book_cut k.p s k.book h.book))),
      sym (ap (λ (step : SenderState × Result Receipt MarkFault). step.1) done),
    )

pub returns-in-Err-clause-memory : goal.returns-in-Err-clause-memory
returns-in-Err-clause-memory c e =
    let k = kept_of c.args.self.now in
    ap (λ (q : Parts). kept_of q) (c.cut_unless_memory.ensures.memory (as_memory c.in-Err.fault e))
    ∙ ap (λ (b : BookState). record k { book = b }) (c.request.ensures.memory (c.in-Err.is ∙ as_numbered c.in-Err.fault Memory e))
  where
    as_memory : (f : MarkFault) → ◌≡◌ {A = Result Receipt MarkFault} (Err f) (Err Memory) → f ≡ Memory
    as_memory f e = cc
