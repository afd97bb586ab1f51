-- What is linked stays linked as a block is done, and as the window goes on.
use Rattle.std.proofs.Common.{ℕ, ◌≡◌, ◌<◌, ◌≤◌, ◌+◌, ◌-◌, ◌⊎◌, inl, inr, subst, sym, ◌∙◌, arith}
use Rattle.std.proofs.lemmas.Bool.{cases_eq, cases_lt, cases_order}
use Rattle.short_blocks.specs.Links.{IsNext, IsBehind, AreLinked}

-- A block is done, and each other one is what it was.
pub record Settles (start end b : ℕ) (old new : ℕ → ℕ) : Type 0 where
  pub here : new b ≡ 0
  pub done : (k : ℕ) → start ≤ k → k < end → old k ≡ 0 → new k ≡ 0
  pub short : (k : ℕ) → start ≤ k → k < end → (k ≡ b → ⊥) → 0 < old k → 0 < new k

next_kept : (start end b from n : ℕ) (old new : ℕ → ℕ) → Settles start end b old new → start ≤ from
    → IsNext old from end n → (n ≡ b → ⊥) → IsNext new from end n
next_kept start end b from n old new s le h ne = record {
  above = h.above;
  most = h.most;
  done = λ k lo hi. s.done k (omega arith) (omega arith) (h.done k lo hi);
  short = λ lt. s.short n (omega arith) lt ne (h.short lt);
}

-- the first short one was the one that is done now: it is the one behind it then
next_over : (start end b from n : ℕ) (old new : ℕ → ℕ) → Settles start end b old new → start ≤ from
    → IsNext old from end b → IsNext old (b + 1) end n → IsNext new from end n
next_over start end b from n old new s le h g = record {
  above = omega arith;
  most = g.most;
  done = λ k lo hi. elim (cases_order k b) [
    | inl e ↦ subst (λ (x : ℕ). new x ≡ 0) (sym e) s.here
    | inr (inl lt) ↦ s.done k (omega arith) (omega arith) (h.done k lo lt)
    | inr (inr gt) ↦ s.done k (omega arith) (omega arith) (g.done k (omega arith) hi)
  ];
  short = λ lt. s.short n (omega arith) lt (λ e. omega arith) (g.short lt);
}

behind_kept : (start end b before n : ℕ) (old new : ℕ → ℕ) → Settles start end b old new → before ≤ end
    → IsBehind old start before n → (start < n → n - 1 ≡ b → ⊥) → IsBehind new start before n
behind_kept start end b before n old new s le h ne = record {
  most = h.most;
  done = λ k from lo hi. s.done k from (omega arith) (h.done k from lo hi);
  short = λ lt. s.short (n - 1) (omega arith) (omega arith) (ne lt) (h.short lt);
}

-- the last short one was the one that is done now: it is the one before it then
behind_over : (start end b before n : ℕ) (old new : ℕ → ℕ) → Settles start end b old new → start ≤ b → before ≤ end
    → IsBehind old start before (b + 1) → IsBehind old start b n → IsBehind new start before n
behind_over start end b before n old new s at le h g = record {
  most = omega arith;
  done = λ k from lo hi. elim (cases_order k b) [
    | inl e ↦ subst (λ (x : ℕ). new x ≡ 0) (sym e) s.here
    | inr (inl lt) ↦ s.done k from (omega arith) (g.done k from lo lt)
    | inr (inr gt) ↦ s.done k from (omega arith) (h.done k from (omega arith) hi)
  ];
  short = λ lt. s.short (n - 1) (omega arith) (omega arith) (λ e. omega arith) (g.short lt);
}

-- A block leaves the links: those beside it are linked to one another.
pub record Leaves (start end head tail b : ℕ) (old olds new news : ℕ → ℕ) (head' tail' : ℕ) : Type 0 where
  pub here : new b ≡ 0
  pub joined : (k : ℕ) → start ≤ k → k < end → (k ≡ b → ⊥) → k + 1 ≡ olds b → new k ≡ old b
  pub others : (k : ℕ) → start ≤ k → k < end → (k ≡ b → ⊥) → (k + 1 ≡ olds b → ⊥) → new k ≡ old k
  pub joined_back : (k : ℕ) → start ≤ k → k < end → k ≡ old b → news k ≡ olds b
  pub others_back : (k : ℕ) → start ≤ k → k < end → (k ≡ old b → ⊥) → news k ≡ olds k
  pub head_stays : start < olds b → head' ≡ head
  pub head_goes : olds b ≤ start → head' ≡ old b
  pub tail_stays : old b < end → tail' ≡ tail
  pub tail_goes : end ≤ old b → tail' ≡ olds b

module _ (start end head tail b : ℕ) (old olds new news : ℕ → ℕ) (head' tail' : ℕ)
    (h : AreLinked start end head tail old olds) (le : start ≤ b) (lt : b < end) (is : 0 < old b)
    (l : Leaves start end head tail b old olds new news head' tail') where
  next_here : IsNext old (b + 1) end (old b)
  next_here = h.next b le lt is

  behind_here : IsBehind old start b (olds b)
  behind_here = h.before b le lt is

  -- the short one before is no done one
  before_short : (k : ℕ) → start ≤ k → k + 1 ≡ olds b → 0 < old k
  before_short k from e =
      let same : olds b - 1 ≡ k = omega arith in
      subst (λ (x : ℕ). 0 < old x) same (behind_here.short (omega arith))

  pub settles : Settles start end b old new
  settles = record {
    here = l.here;
    done = λ k from to zero. elim (cases_eq k b) [
      | inl e ↦ subst (λ (x : ℕ). new x ≡ 0) (sym e) l.here
      | inr ne ↦ elim (cases_eq (k + 1) (olds b)) [
        | inl e ↦ absurd (let short = before_short k from e in omega (arith, short, zero))
        | inr other ↦ l.others k from to ne other ∙ zero
      ]
    ];
    short = λ k from to ne some. elim (cases_eq (k + 1) (olds b)) [
      | inl e ↦ let same = l.joined k from to ne e in omega (arith, same, is)
      | inr other ↦ let same = l.others k from to ne other in omega (arith, same, some)
    ];
  }

  still_short : (k : ℕ) → start ≤ k → k < end → 0 < new k → 0 < old k
  still_short k from to some = elim (cases_eq (old k) 0) [
    | inl e ↦ absurd (let zero = settles.done k from to e in omega (arith, zero, some))
    | inr ne ↦ omega (arith, ne)
  ]

  apart : (k : ℕ) → 0 < new k → k ≡ b → ⊥
  apart k some e = let zero = subst (λ (x : ℕ). new x ≡ 0) (sym e) l.here in omega (arith, zero, some)

  head_is : IsNext new start end head'
  head_is = elim (cases_lt start (olds b)) [
    | inl under ↦ subst (λ (x : ℕ). IsNext new start end x) (sym (l.head_stays under))
        (next_kept start end b start head old new settles (omega arith) h.first
        (λ e. let most = behind_here.most in let zero = h.first.done (olds b - 1) (omega arith) (omega (arith, most)) in let short = behind_here.short under in omega (arith, zero, short)))
    | inr over ↦ subst (λ (x : ℕ). IsNext new start end x) (sym (l.head_goes over))
        (next_over start end b start (old b) old new settles (omega arith)
        (record {
          above = le;
          most = omega arith;
          done = λ k lo hi. behind_here.done k lo (omega arith) hi;
          short = λ _. is;
        })
        next_here)
  ]

  tail_is : IsBehind new start end tail'
  tail_is = elim (cases_lt (old b) end) [
    | inl under ↦ subst (λ (x : ℕ). IsBehind new start end x) (sym (l.tail_stays under))
        (behind_kept start end b end tail old new settles (omega arith) h.last
        (λ from e. let above = next_here.above in let zero = h.last.done (old b) (omega (arith, above)) (omega (arith, above)) under in let short = next_here.short under in omega (arith, zero, short)))
    | inr over ↦ subst (λ (x : ℕ). IsBehind new start end x) (sym (l.tail_goes over))
        (behind_over start end b end (olds b) old new settles le (omega arith)
        (record {
          most = omega arith;
          done = λ k from lo hi. next_here.done k lo (omega arith);
          short = λ _. let same : b + 1 - 1 ≡ b = omega arith in subst (λ (x : ℕ). 0 < old x) (sym same) is;
        })
        behind_here)
  ]

  next_is : (k : ℕ) → start ≤ k → k < end → 0 < new k → IsNext new (k + 1) end (new k)
  next_is k from to some = elim (cases_eq (k + 1) (olds b)) [
    | inl e ↦ subst (λ (x : ℕ). IsNext new (k + 1) end x) (sym (l.joined k from to (apart k some) e))
        (next_over start end b (k + 1) (old b) old new settles (omega arith)
        (record {
          above = let most = behind_here.most in omega (arith, most, e);
          most = omega arith;
          done = λ j lo hi. behind_here.done j (omega arith) (omega (arith, e)) hi;
          short = λ _. is;
        })
        next_here)
    | inr other ↦ subst (λ (x : ℕ). IsNext new (k + 1) end x) (sym (l.others k from to (apart k some) other))
        (next_kept start end b (k + 1) (old k) old new settles (omega arith) (h.next k from to (still_short k from to some))
        (λ e. not_here k from to (still_short k from to some) other e))
  ]
    where
      not_here : (k : ℕ) → start ≤ k → k < end → 0 < old k → (k + 1 ≡ olds b → ⊥) → old k ≡ b → ⊥
      not_here k from to short other e =
          let it = h.next k from to short in
          let above = it.above in
          let most = behind_here.most in
          elim (cases_lt k (olds b)) [
            | inl under ↦ let zero = it.done (olds b - 1) (omega (arith, other, under)) (omega (arith, most, e)) in let some = behind_here.short (omega arith) in omega (arith, zero, some)
            | inr over ↦ let zero = behind_here.done k from over (omega (arith, above, e)) in omega (arith, zero, short)
          ]

  before_is : (k : ℕ) → start ≤ k → k < end → 0 < new k → IsBehind new start k (news k)
  before_is k from to some = elim (cases_eq k (old b)) [
    | inl e ↦ subst (λ (x : ℕ). IsBehind new start k x) (sym (l.joined_back k from to e))
        (behind_over start end b k (olds b) old new settles le (omega arith)
        (record {
          most = let above = next_here.above in omega (arith, above, e);
          done = λ j lo hi under. next_here.done j hi (omega (arith, e));
          short = λ _. let same : b + 1 - 1 ≡ b = omega arith in subst (λ (x : ℕ). 0 < old x) (sym same) is;
        })
        behind_here)
    | inr other ↦ subst (λ (x : ℕ). IsBehind new start k x) (sym (l.others_back k from to other))
        (behind_kept start end b k (olds k) old new settles (omega arith) (h.before k from to (still_short k from to some))
        (λ above e. not_here k from to (still_short k from to some) other above e))
  ]
    where
      not_here : (k : ℕ) → start ≤ k → k < end → 0 < old k → (k ≡ old b → ⊥) → start < olds k → olds k - 1 ≡ b → ⊥
      not_here k from to short other above e =
          let it = h.before k from to short in
          let most = it.most in
          let up = next_here.above in
          elim (cases_lt k (old b)) [
            | inl under ↦ let zero = next_here.done k (omega (arith, most, e)) under in omega (arith, zero, short)
            | inr over ↦ let zero = it.done (old b) (omega (arith, up)) (omega (arith, up, e, above)) (omega (arith, over, other)) in let some = next_here.short (omega (arith, over)) in omega (arith, zero, some)
          ]

  pub left_linked : AreLinked start end head' tail' new news
  left_linked = record { width = h.width; first = head_is; last = tail_is; next = next_is; before = before_is }

-- A block joins the links at their end, and the first one goes.
pub record Joins (start end tail : ℕ) (old olds new news : ℕ → ℕ) : Type 0 where
  pub here : new end ≡ end + 1
  pub kept : (k : ℕ) → start < k → k < end → new k ≡ old k
  pub here_back : (news end ≡ tail) ⊎ ((end ≡ start + 1) × (news end ≡ start + 1))
  pub kept_back : (k : ℕ) → start < k → k < end → news k ≡ olds k

module _ (start end head tail : ℕ) (old olds new news : ℕ → ℕ) (h : AreLinked start end head tail old olds)
    (some : start < end) (gone : old start ≡ 0) (j : Joins start end tail old olds new news) where
  next_later : (from n : ℕ) → start < from → IsNext old from end n → IsNext new from (end + 1) n
  next_later from n lt g = record {
    above = g.above;
    most = let most = g.most in omega (arith, most);
    done = λ k lo hi. let most = g.most in j.kept k (omega arith) (omega (arith, most)) ∙ g.done k lo hi;
    short = λ _. elim (cases_lt n end) [
      | inl under ↦ let above = g.above in let same = j.kept n (omega (arith, above)) under in let short = g.short under in omega (arith, same, short)
      | inr over ↦ let most = g.most in let e : n ≡ end = omega (arith, most, over) in subst (λ (x : ℕ). 0 < new x) (sym e) (let here = j.here in omega (arith, here))
    ];
  }

  behind_later : (before n : ℕ) → before ≤ end → IsBehind old start before n → IsBehind new (start + 1) before n
  behind_later before n le g = record {
    most = g.most;
    done = λ k from lo hi. j.kept k (omega arith) (omega arith) ∙ g.done k (omega arith) lo hi;
    short = λ lt. let most = g.most in let same = j.kept (n - 1) (omega arith) (omega (arith, most)) in let short = g.short (omega arith) in omega (arith, same, short);
  }

  head_later : IsNext old (start + 1) end head
  head_later = record {
    above = elim (cases_eq head start) [
      | inl e ↦ absurd (let short = subst (λ (x : ℕ). 0 < old x) e (h.first.short (omega (arith, e))) in omega (arith, short, gone))
      | inr ne ↦ let above = h.first.above in omega (arith, above, ne)
    ];
    most = h.first.most;
    done = λ k lo hi. h.first.done k (omega arith) hi;
    short = h.first.short;
  }

  last_back : IsBehind new (start + 1) end (news end)
  last_back = elim j.here_back [
    | inl e ↦ subst (λ (x : ℕ). IsBehind new (start + 1) end x) (sym e) (behind_later end tail (omega arith) h.last)
    | inr alone ↦ subst (λ (x : ℕ). IsBehind new (start + 1) end x) (sym alone.1) (record {
      most = omega arith;
      done = λ k from lo hi. absurd (omega arith);
      short = λ lt. absurd (omega arith);
    })
  ]

  pub joined_linked : AreLinked (start + 1) (end + 1) head (end + 1) new news
  joined_linked = record {
    width = omega arith;
    first = next_later (start + 1) head (omega arith) head_later;
    last = record {
      most = omega arith;
      done = λ k from lo hi. absurd (omega arith);
      short = λ _. let same : end + 1 - 1 ≡ end = omega arith in subst (λ (x : ℕ). 0 < new x) (sym same) (let here = j.here in omega (arith, here));
    };
    next = λ k from to short. elim (cases_lt k end) [
      | inl under ↦ let same = j.kept k (omega arith) under in subst (λ (x : ℕ). IsNext new (k + 1) (end + 1) x) (sym same) (next_later (k + 1) (old k) (omega arith) (h.next k (omega arith) under (omega (arith, same, short))))
      | inr over ↦ let e : k ≡ end = omega arith in let same : new k ≡ k + 1 = subst (λ (x : ℕ). new x ≡ x + 1) (sym e) j.here in subst (λ (x : ℕ). IsNext new (k + 1) (end + 1) x) (sym same) (record {
        above = omega arith;
        most = omega arith;
        done = λ i lo hi. absurd (omega arith);
        short = λ lt. absurd (omega arith);
      })
    ];
    before = λ k from to short. elim (cases_lt k end) [
      | inl under ↦ let same = j.kept k (omega arith) under in subst (λ (x : ℕ). IsBehind new (start + 1) k x) (sym (j.kept_back k (omega arith) under)) (behind_later k (olds k) (omega arith) (h.before k (omega arith) under (omega (arith, same, short))))
      | inr over ↦ let e : k ≡ end = omega arith in subst (λ (x : ℕ). IsBehind new (start + 1) x (news x)) (sym e) last_back
    ];
  }

-- all blocks are short, and each is linked to its neighbours
pub all_are_linked : (count : ℕ) (new news : ℕ → ℕ) → ((k : ℕ) → k < count → new k ≡ k + 1) → ((k : ℕ) → k < count → news k ≡ k) → AreLinked 0 count 0 count new news
all_are_linked count new news next back = record {
  width = omega arith;
  first = record {
    above = omega arith;
    most = omega arith;
    done = λ k lo hi. absurd (omega arith);
    short = λ lt. let e = next 0 lt in omega (arith, e);
  };
  last = record {
    most = omega arith;
    done = λ k from lo hi. absurd (omega arith);
    short = λ lt. let e = next (count - 1) (omega arith) in omega (arith, e);
  };
  next = λ k from to short. subst (λ (x : ℕ). IsNext new (k + 1) count x) (sym (next k to)) (record {
    above = omega arith;
    most = omega arith;
    done = λ j lo hi. absurd (omega arith);
    short = λ lt. let e = next (k + 1) lt in omega (arith, e);
  });
  before = λ k from to short. subst (λ (x : ℕ). IsBehind new 0 k x) (sym (back k to)) (record {
    most = omega arith;
    done = λ j from' lo hi. absurd (omega arith);
    short = λ lt. let e = next (k - 1) (omega arith) in omega (arith, e);
  });
}
