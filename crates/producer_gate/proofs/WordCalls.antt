-- The steps on the board's words as the calls ask for them: of a seat whose view writes, or reads, and that is at rest.
use Rattle.std.proofs.Common.{◌≡◌, ℕ, ◌+◌, ◌*◌, ◌<◌, [], length, sym, subst}
use mathlib.Core.Option.{none}
use Rattle.atomic_table.specs.Table.{Me, step, Allows}
use Rattle.producer_gate.specs.declared.words.Role.{Role}
use Rattle.producer_gate.specs.declared.words.Role.TheVariants.{Writes, Reads, Gone}
use Rattle.producer_gate.specs.Posts.{Posts}
use Rattle.producer_gate.specs.Plays.{IsWriter, IsReader, own_in, PutFirst, PutSecond, Shown, Looked, Read, Compared}
use Rattle.producer_gate.proofs.WordSteps.{put_first_at, put_second_at, show_at, look_at, read_at, compare_at}

-- what holds of a seat at rest with this view holds of the seat
at_rest : (P : Me ℕ Role → Type 0) (me : Me ℕ Role) → me.1 ≡ [] → P (me.0, []) → P me
at_rest P me e h = subst P (λ i. (me.0, sym e i)) h

put_first_by : (slots id : ℕ) (v : Role) (n x : ℕ) → IsWriter v → n ≡ length (own_in v) → n < 4096
    → Allows Posts slots id (v, []) (2 * n + 1) (λ _. x) (λ _. PutFirst (step slots (2 * n + 1) x 0 none) (v, []) x)
put_first_by slots id (Writes l a b q) n x h same few = put_first_at slots id l a b q n x same few
put_first_by slots id (Reads known told) n x h same few = absurd h
put_first_by slots id Gone n x h same few = absurd h

pub puts_first : (slots id : ℕ) (me : Me ℕ Role) (n x : ℕ) → me.1 ≡ [] → IsWriter me.0 → n ≡ length (own_in me.0) → n < 4096
    → Allows Posts slots id me (2 * n + 1) (λ _. x) (λ _. PutFirst (step slots (2 * n + 1) x 0 none) me x)
puts_first slots id me n x e h same few =
    at_rest (λ (m : Me ℕ Role). Allows Posts slots id m (2 * n + 1) (λ _. x) (λ _. PutFirst (step slots (2 * n + 1) x 0 none) m x)) me e (put_first_by slots id me.0 n x h same few)

put_second_by : (slots id : ℕ) (v : Role) (n x : ℕ) → IsWriter v → n ≡ length (own_in v) → n < 4096
    → Allows Posts slots id (v, []) (2 * n + 2) (λ _. x) (λ _. PutSecond (step slots (2 * n + 2) x 0 none) (v, []) x)
put_second_by slots id (Writes l a b q) n x h same few = put_second_at slots id l a b q n x same few
put_second_by slots id (Reads known told) n x h same few = absurd h
put_second_by slots id Gone n x h same few = absurd h

pub puts_second : (slots id : ℕ) (me : Me ℕ Role) (n x : ℕ) → me.1 ≡ [] → IsWriter me.0 → n ≡ length (own_in me.0) → n < 4096
    → Allows Posts slots id me (2 * n + 2) (λ _. x) (λ _. PutSecond (step slots (2 * n + 2) x 0 none) me x)
puts_second slots id me n x e h same few =
    at_rest (λ (m : Me ℕ Role). Allows Posts slots id m (2 * n + 2) (λ _. x) (λ _. PutSecond (step slots (2 * n + 2) x 0 none) m x)) me e (put_second_by slots id me.0 n x h same few)

show_by : (slots id : ℕ) (v : Role) (n : ℕ) → IsWriter v → n ≡ length (own_in v) → n < 4096
    → Allows Posts slots id (v, []) 0 (λ _. n + 1) (λ _. Shown (step slots 0 (n + 1) 0 none) (v, []) (n + 1))
show_by slots id (Writes l a b q) n h same few = show_at slots id l a b q n same few
show_by slots id (Reads known told) n h same few = absurd h
show_by slots id Gone n h same few = absurd h

pub shows : (slots id : ℕ) (me : Me ℕ Role) (n : ℕ) → me.1 ≡ [] → IsWriter me.0 → n ≡ length (own_in me.0) → n < 4096
    → Allows Posts slots id me 0 (λ _. n + 1) (λ _. Shown (step slots 0 (n + 1) 0 none) me (n + 1))
shows slots id me n e h same few =
    at_rest (λ (m : Me ℕ Role). Allows Posts slots id m 0 (λ _. n + 1) (λ _. Shown (step slots 0 (n + 1) 0 none) m (n + 1))) me e (show_by slots id me.0 n h same few)

look_by : (slots id : ℕ) (v : Role) → IsReader v → Allows Posts slots id (v, []) 0 (λ n. n) (Looked (step slots 0 0 0 none) (v, []))
look_by slots id (Writes l a b q) h = absurd h
look_by slots id (Reads known told) h = look_at slots id known told
look_by slots id Gone h = absurd h

pub looks : (slots id : ℕ) (me : Me ℕ Role) → me.1 ≡ [] → IsReader me.0 → Allows Posts slots id me 0 (λ n. n) (Looked (step slots 0 0 0 none) me)
looks slots id me e h = at_rest (λ (m : Me ℕ Role). Allows Posts slots id m 0 (λ n. n) (Looked (step slots 0 0 0 none) m)) me e (look_by slots id me.0 h)

read_by : (slots id i : ℕ) (v : Role) → IsReader v → Allows Posts slots id (v, []) i (λ n. n) (Read (step slots i 0 0 none) (v, []))
read_by slots id i (Writes l a b q) h = absurd h
read_by slots id i (Reads known told) h = read_at slots id i known told
read_by slots id i Gone h = absurd h

pub reads : (slots id i : ℕ) (me : Me ℕ Role) → me.1 ≡ [] → IsReader me.0 → Allows Posts slots id me i (λ n. n) (Read (step slots i 0 0 none) me)
reads slots id i me e h = at_rest (λ (m : Me ℕ Role). Allows Posts slots id m i (λ n. n) (Read (step slots i 0 0 none) m)) me e (read_by slots id i me.0 h)

compare_by : (slots id i : ℕ) (v : Role) → IsWriter v → Allows Posts slots id (v, []) i (λ n. n) (Compared (step slots i 0 0 none) (v, []))
compare_by slots id i (Writes l a b q) h = compare_at slots id i l a b q
compare_by slots id i (Reads known told) h = absurd h
compare_by slots id i Gone h = absurd h

pub compares : (slots id i : ℕ) (me : Me ℕ Role) → me.1 ≡ [] → IsWriter me.0 → Allows Posts slots id me i (λ n. n) (Compared (step slots i 0 0 none) me)
compares slots id i me e h = at_rest (λ (m : Me ℕ Role). Allows Posts slots id m i (λ n. n) (Compared (step slots i 0 0 none) m)) me e (compare_by slots id i me.0 h)
