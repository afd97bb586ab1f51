-- What was said in a lawful run is true of the orders: each symbol, info, flush and squelch.
use Rattle.std.proofs.Common.{◌≡◌, ℕ, List, [], ◌∷◌, ◌++◌, Bool, true, false, Option, None, Some, refl, ap, ◌∙◌, inl, inr}
use Rattle.std.specs.Prelude.{slice_get, flat_map, ◌==◌, ◌&&◌, ◌||◌, not, IsTrue}
use Rattle.std.specs.List.{AllByRecursion}
use Rattle.std.proofs.lemmas.Bool.Decides.{Decides-eqb}
use Rattle.norm_base.specs.Settings.{Settings, InRange}
use Rattle.fec_plan.specs.Points.{Point, point, point_before}
use Rattle.norm_ext.specs.Message.{Message, Info, Data, Flush, Eot, Squelch, RepairAdv, AckReq, Opaque, Nack, Ack, Report, SquelchCommand}
use Rattle.norm_ext.specs.Written.{Written}
use Rattle.norm_send_rules.specs.SenderState.{SenderState, Instance}
use Rattle.norm_order.specs.Entries.{Entry}
use Rattle.norm_safety.specs.Events.{Event}
use Rattle.norm_safety.specs.History.{history}
use Rattle.norm_safety.specs.InOrder.{drop_of, is_stream_object}
use Rattle.norm_safety.specs.Jobs.{AreEvents}
use Rattle.norm_safety.specs.Laws.{SaidOfOrders}
use Rattle.norm_safety.specs.Lawful.{Lawful}
use Rattle.norm_safety.specs.Said.{About, about, data_said, info_said, flush_said, squelch_said}
use Rattle.norm_safety.specs.SaysPositions.{flushes_source, squelches_dropped, is_stream_at}
use Rattle.norm_safety.specs.SaysSymbols.{SaysSymbol, SaysInfo}
use Rattle.norm_safety.specs.World.{World}
use Rattle.norm_safety.proofs.OrderRun.{run_of}
use Rattle.norm_safety.proofs.SenderHolds.{point_in, entries_in}
use Rattle.norm_safety.proofs.Spoken.{IsTrueOf, SaysTrue, IsOfStream, SquelchesDropped}

pub all_append : {X : Type 0} (P : X → Type 0) (xs ys : List X) → AllByRecursion P xs → AllByRecursion P ys → AllByRecursion P (xs ++ ys)
all_append P [] ys h g = g
all_append P (x ∷ xs) ys h g = (h.0, all_append P xs ys h.1 g)

-- of what each datagram says of a kind
each_said : {M : Type 0} (p : Settings) (s : SenderState) (P : About M → Type 0) (kind : List ℕ → Message → List (About M))
    → ((indices : List ℕ) (m : Message) → IsTrueOf p s indices m → AllByRecursion P (kind indices m)) → (said : List (ℕ × Written))
    → AllByRecursion (λ (o : ℕ × Written). SaysTrue p s o.1) said → AllByRecursion P (flat_map (λ (o : ℕ × Written). kind o.1.indices o.1.message) said)
each_said p s P kind one [] all = tt
each_said p s P kind one (o ∷ said) all =
    all_append P (kind o.1.indices o.1.message) _ (one o.1.indices o.1.message all.0.1) (each_said p s P kind one said all.1)

data_true : (p : Settings) (s : SenderState) (indices : List ℕ) (m : Message) → IsTrueOf p s indices m → AllByRecursion (SaysSymbol p s) (data_said indices m)
data_true p s indices (Info m) h = tt
data_true p s indices (Data m) h = (h.1, tt)
data_true p s indices (Flush m) h = tt
data_true p s indices (Eot m) h = tt
data_true p s indices (Squelch m) h = tt
data_true p s indices (RepairAdv m) h = tt
data_true p s indices (AckReq m) h = tt
data_true p s indices (Opaque m) h = tt
data_true p s indices (Nack m) h = tt
data_true p s indices (Ack m) h = tt
data_true p s indices (Report m) h = tt

info_true : (p : Settings) (s : SenderState) (indices : List ℕ) (m : Message) → IsTrueOf p s indices m → AllByRecursion (SaysInfo p s) (info_said indices m)
info_true p s indices (Info m) h = (h.1, tt)
info_true p s indices (Data m) h = tt
info_true p s indices (Flush m) h = tt
info_true p s indices (Eot m) h = tt
info_true p s indices (Squelch m) h = tt
info_true p s indices (RepairAdv m) h = tt
info_true p s indices (AckReq m) h = tt
info_true p s indices (Opaque m) h = tt
info_true p s indices (Nack m) h = tt
info_true p s indices (Ack m) h = tt
info_true p s indices (Report m) h = tt

-- a squelch that names a point which the drop point is not before, and a block only of a stream, as the test
dropped_test : (s : SenderState) (x : About SquelchCommand) → SquelchesDropped s x → IsTrue (squelches_dropped s x)
dropped_test s x (i, found, before, of) =
    let m : SquelchCommand = x.message in
    let at : drop_of s m.head.instance ≡ i.drop = ap point_in found in
    both (not (point_before (drop_of s m.head.instance) (point x.index m.id.block)))
    (m.id.block == 0 || is_stream_at s m.head.instance x.index)
    (ap (λ (d : Point). not (point_before d (point x.index m.id.block))) at ∙ ap not before) (either of)
  where
    both : (a b : Bool) → a ≡ true → b ≡ true → (a && b) ≡ true
    both true b e f = f
    both false b e f = e

    first : (a b : Bool) → a ≡ true → (a || b) ≡ true
    first true b e = refl
    first false b e = absurd (cc)

    second : (a b : Bool) → b ≡ true → (a || b) ≡ true
    second true b e = refl
    second false b e = e

    stream_found : Option Entry → Bool
    stream_found found = elim found [ Some entry ↦ is_stream_object entry.object | None ↦ false ]

    either : IsOfStream i.order x.index x.message.id.block → (x.message.id.block == 0 || is_stream_at s x.message.head.instance x.index) ≡ true
    either (inl none) = first (x.message.id.block == 0) _ ((Decides-eqb x.message.id.block 0).1 none)
    either (inr (entry, there, is)) = second (x.message.id.block == 0) _
        (ap (λ (o : Option Instance). stream_found (slice_get (entries_in o) x.index)) found ∙ ap stream_found there ∙ is)

squelch_true : (p : Settings) (s : SenderState) (indices : List ℕ) (m : Message) → IsTrueOf p s indices m
    → AllByRecursion (λ x. IsTrue (squelches_dropped s x)) (squelch_said indices m)
squelch_true p s indices (Info m) h = tt
squelch_true p s indices (Data m) h = tt
squelch_true p s indices (Flush m) h = tt
squelch_true p s indices (Eot m) h = tt
squelch_true p s indices (Squelch m) h = (dropped_test s (about indices m) h.1, tt)
squelch_true p s indices (RepairAdv m) h = tt
squelch_true p s indices (AckReq m) h = tt
squelch_true p s indices (Opaque m) h = tt
squelch_true p s indices (Nack m) h = tt
squelch_true p s indices (Ack m) h = tt
squelch_true p s indices (Report m) h = tt

flush_true : (p : Settings) (s : SenderState) (indices : List ℕ) (m : Message) → IsTrueOf p s indices m
    → AllByRecursion (λ x. IsTrue (flushes_source p s x)) (flush_said indices m)
flush_true p s indices (Info m) h = tt
flush_true p s indices (Data m) h = tt
flush_true p s indices (Flush m) h = (h.1, tt)
flush_true p s indices (Eot m) h = tt
flush_true p s indices (Squelch m) h = tt
flush_true p s indices (RepairAdv m) h = tt
flush_true p s indices (AckReq m) h = tt
flush_true p s indices (Opaque m) h = tt
flush_true p s indices (Nack m) h = tt
flush_true p s indices (Ack m) h = tt
flush_true p s indices (Report m) h = tt

pub said_run : (p : Settings) → InRange p → (events : List Event) → Lawful p events → AreEvents events
    → SaidOfOrders p (history p events)
said_run p range events lawful are =
    let run = run_of p range events lawful are in
    let w : World = (history p events).now in
    let said = all_append (λ (o : ℕ × Written). SaysTrue p w.sender o.1) w.offered w.given run.holds.offered run.holds.given in
    record {
      symbols = each_said p w.sender (SaysSymbol p w.sender) data_said (data_true p w.sender) (w.offered ++ w.given) said;
      infos = each_said p w.sender (SaysInfo p w.sender) info_said (info_true p w.sender) (w.offered ++ w.given) said;
      flushes = each_said p w.sender (λ m. IsTrue (flushes_source p w.sender m)) flush_said (flush_true p w.sender) (w.offered ++ w.given) said;
      squelches = each_said p w.sender (λ m. IsTrue (squelches_dropped w.sender m)) squelch_said (squelch_true p w.sender) (w.offered ++ w.given) said;
    }
