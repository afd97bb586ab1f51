-- Files that commands name: reading them, and what the sender gives to one.
use Rattle.std.proofs.Common.{◌≡◌, ℕ, zero, suc, ◌+◌, ◌<◌, ◌≤◌, inl, inr, List, [], ◌∷◌, ◌++◌, length, replicate, take, drop, Option, None, Some, Bool, true, false, refl, sym, ap, ◌∙◌, subst, arith}
use Rattle.std.specs.Prelude.{◌≢◌, ◌↔◌, Result, Ok, Err, IfOk, IfErr, IfSome, IsNone, IsSome, IsErrOf, is_none, is_some}
use Rattle.std.specs.Option.{option_map}
use Rattle.std.proofs.Math.Seq.{take-add}
use Rattle.std.proofs.lemmas.List.{length-append, length-replicate, take_all}
use Rattle.norm_base.specs.Contents.{content_of}
use Rattle.norm_base.specs.Network.{Network}
use Rattle.norm_base.specs.Octets.{AreOctets}
use Rattle.norm_base.specs.Settings.{Settings}
use Rattle.norm_base.specs.Told.{Pieces}
use Rattle.norm_base.specs.declared.fault.FileFault.{FileFault}
use Rattle.norm_base.specs.declared.fault.FileFault.TheVariants as file
use Rattle.norm_base.specs.declared.node.Origin.{Origin}
use Rattle.norm_script.specs.declared.script.Line.{Line}
use Rattle.norm_script.specs.declared.script.Verb.{Verb}
use Rattle.norm_script.specs.declared.script.Verb.TheVariants as verb
use Rattle.norm_send_rules.specs.declared.fault.SendFault.{SendFault}
use Rattle.norm_send_rules.specs.declared.fault.SendFault.TheVariants as send
use Rattle.norm_send_rules.specs.declared.job.Job.{Job}
use Rattle.norm_send_rules.specs.declared.job.Job.TheVariants as job
use Rattle.norm_send_rules.specs.declared.job.Receipt.{Receipt}
use Rattle.norm_safety.specs.Events.{Commanded, Gave}
use Rattle.norm_safety.specs.World.{World}
use Rattle.norm_safety.specs.WorldStep.{world_step}
use Rattle.norm_journal.specs.declared.event.Event.{Event}
use Rattle.norm_journal.specs.declared.event.Event.TheVariants as event
use Rattle.norm_journal.specs.Calls.{LooksIntoFile, file_call, call_at}
use Rattle.norm_journal.specs.Commands.{telling}
use Rattle.norm_journal.specs.Follows.{CommandOffered, FileRefused, IsContent, IsLength, IsJobOf}
use Rattle.norm_journal.specs.Jobs.{Told, job_of, may_be_absent, file_of_length}
use Rattle.norm_journal.specs.Judged.{Judged}
use Rattle.norm_journal.specs.Lines.{gave_line, no_line, reason_of}
use Rattle.norm_journal.specs.Pulling.{origin_of}
use Rattle.norm_journal.specs.SessionRun.{Absent, Ending, absent_of, ends_in}
use Rattle.norm_journal.proofs.FollowLemmas.{judges_what_follows}
use Rattle.norm_world.specs.WorldKept.{WorldKept, StandsFor, IsBegun, IsFilling, HasBegun}
use Rattle.norm_world.specs.WorldMoves.{IsEvent, IsRefused}
use Rattle.norm_world.proofs.WorldLemmas.{is_event}
use Rattle.norm_sender.specs.Commands.{GivesBack}
use Rattle.norm_turns.specs.Causes.{FilesCause, WriteCause, HasCause, counted, counts_after}
use Rattle.norm_session.specs.Commanding.{IsDue, IsAnswered, CommandCause, given, offering, told_at}
use Rattle.norm_session.specs.Context.{Context, judged_of}
use Rattle.norm_session.specs.Noting.{IsAtHand}
use Rattle.norm_session.specs.Reading.{IsOfFile, IsFaultOf, IsFront, HasPart, IsReading, HasRead, ReadsOn, IsTaken, AcceptsFile, IsFileGave, octets_at, octets_there, refusal_of}
use Rattle.norm_session.specs.RunKept.{RunKept}
use Rattle.norm_session.specs.Stopping.{Stopped}
use Rattle.norm_session.specs.declared.reading.FileGave.{FileGave}
use Rattle.norm_session.specs.declared.reading.FileGave.TheVariants.{Accepted, Refused}
use Rattle.norm_turns.specs.declared.fault.SessionFault.{SessionFault}
use Rattle.norm_turns.specs.declared.fault.SessionFault.TheVariants as fault
use Rattle.norm_session.proofs.CommandLemmas.{IsQuietEvent, has_all, moved_to, gave_text, memory_at}

-- ---- a call of the files that gave nothing

absent_none : (found : Option (List ℕ)) → IsNone found → is_none found ≡ true
absent_none None e = refl
absent_none (Some x) e = absurd (cc)

-- a file that is absent, as the call says
pub may_be : {T : Type 0} (files : Told) (name : List ℕ) (result : Result T FileFault)
    → IfSome files (λ fs. IsErrOf result file.Absent ↔ IsNone (content_of fs name)) → result ≡ Err file.Absent → may_be_absent files name ≡ true
may_be None name result h e = refl
may_be (Some fs) name result h e = absent_none (content_of fs name) (h.0 e)

pub of_file : {T : Type 0} (files : Told) (name : List ℕ) (result : Result T FileFault) (failed : FileFault) (stop : SessionFault)
    → IfSome files (λ fs. IsErrOf result file.Absent ↔ IsNone (content_of fs name)) → result ≡ Err failed → IsFaultOf failed name stop → IsOfFile files name stop
of_file files name result file.Failed stop h e is = subst (IsOfFile files name) (sym is) tt
of_file files name result file.Absent stop h e (inl is) = subst (IsOfFile files name) (sym is) (refl, may_be files name result h e)
of_file files name result file.Absent stop h e (inr is) = subst (IsOfFile files name) (sym is) tt

-- a call that gave something found the file
found_there : {T : Type 0} (fs : List (List ℕ × List ℕ)) (name : List ℕ) (value : T) (result : Result T FileFault) (found : Option (List ℕ))
    → (IsErrOf result file.Absent ↔ IsNone found) → result ≡ Ok value → (octets : List ℕ) × (found ≡ Some octets)
found_there fs name value result None h e = absurd (let no = h.1 refl in cc)
found_there fs name value result (Some octets) h e = (octets, refl)

pub length_is : (files : Told) (name : List ℕ) (len : ℕ) (result : Result ℕ FileFault)
    → IfSome files (λ fs. IsErrOf result file.Absent ↔ IsNone (content_of fs name)) → result ≡ Ok len
    → IfSome files (λ fs. IfSome (content_of fs name) (λ octets. len ≡ length octets)) → IsLength files name len
length_is None name len result absent e value = tt
length_is (Some fs) name len result absent e value = go (content_of fs name) absent value
  where
    go : (found : Option (List ℕ)) → (IsErrOf result file.Absent ↔ IsNone found) → IfSome found (λ octets. len ≡ length octets)
        → option_map length found ≡ Some len
    go None absent value = absurd (let no = absent.1 refl in cc)
    go (Some octets) absent value = ap Some (sym value)

-- ---- reading on

-- where the length of a file is known and it is longer, an offset is within it
pub within_file : (files : Told) (name : List ℕ) (len done : ℕ) → IsLength files name len → done < len
    → IfSome files (λ fs. IfSome (content_of fs name) (λ octets. done < length octets))
within_file None name len done is lt = tt
within_file (Some fs) name len done is lt = go (content_of fs name) is
  where
    go : (found : Option (List ℕ)) → option_map length found ≡ Some len → IfSome found (λ octets. done < length octets)
    go None e = absurd (cc)
    go (Some octets) e = let same : length octets ≡ len = cc in omega (arith, same, lt)

front_on : (files : Told) (name octets piece buf : List ℕ) (done n : ℕ) → done ≡ length octets → IsFront files name octets → piece ≡ take n buf → length piece ≡ n
    → IfSome files (λ fs. IfSome (content_of fs name) (λ all. take n buf ≡ take n (drop done all)))
    → IsFront files name (octets ++ piece)
front_on None name octets piece buf done n at front is long read = tt
front_on (Some fs) name octets piece buf done n at front is long read = λ all there.
    let found = subst (λ o. IfSome o (λ all. take n buf ≡ take n (drop done all))) there read in
    let first = front all there in
    let count : length (octets ++ piece) ≡ length octets + n = length-append octets piece ∙ ap (λ m. length octets + m) long in
    ap (λ ys. ys ++ piece) first ∙ ap (λ ys. take (length octets) all ++ ys) (is ∙ found ∙ ap (λ d. take n (drop d all)) at) ∙ sym (take-add (length octets) n all) ∙ ap (λ m. take m all) (sym count)

pub reads_on : (old new : WorldKept) (files : Told) (name octets more piece buf : List ℕ) (len done n : ℕ) → new.p ≡ old.p → done ≡ length octets → more ≡ octets ++ piece
    → piece ≡ take n buf → length piece ≡ n → 0 < n → length octets + n ≤ len
    → IfSome files (λ fs. IfSome (content_of fs name) (λ all. take n buf ≡ take n (drop done all)))
    → ((name octets : List ℕ) (len : ℕ) → IsFilling old name len octets → IsFilling new name len (octets ++ piece))
    → ((w : World) (name octets : List ℕ) (len : ℕ) → HasBegun old w name len octets → HasBegun new w name len (octets ++ piece))
    → ReadsOn old new files name len octets more
reads_on old new files name octets more piece buf len done n same at is piece_is long some fits read filling begun =
    let count : length (octets ++ piece) ≡ length octets + n = length-append octets piece ∙ ap (λ m. length octets + m) long in
    subst (λ ys. ReadsOn old new files name len octets ys) (sym is) (record {
      grows = omega (arith, count, some);
      reads = λ start r. record {
        profile = same ∙ r.profile;
        filling = filling name octets len r.filling;
        within = omega (arith, count, fits);
        front = front_on files name octets piece buf done n at r.front piece_is long read;
        begun = λ w h. begun w name octets len (r.begun w h);
      };
    })

-- what is there of the file that is begun
pub is_there : (k : WorldKept) (name : List ℕ) (len : ℕ) (octets : List ℕ) → IsFilling k name len octets → octets_there k ≡ octets
is_there k name len octets is = ap (λ o. elim o [ Some f ↦ f.octets | None ↦ [] ]) is

octets_both : (xs ys : List ℕ) → AreOctets xs → AreOctets ys → AreOctets (xs ++ ys)
octets_both [] ys front back i = back i
octets_both (x ∷ xs) ys front back zero = front zero
octets_both (x ∷ xs) ys front back (suc i) = octets_both xs ys (λ n. front (suc n)) back i

-- a piece came to the file that is begun
abbrev pub ComesTo : (old new : WorldKept) (piece : List ℕ) → Type 0
ComesTo old new piece = (name octets : List ℕ) (len : ℕ) → IsFilling old name len octets → IsFilling new name len (octets ++ piece)

-- it is there then
pub there_on : (old new : WorldKept) (name piece : List ℕ) (len : ℕ) → IsFilling old name len (octets_there old) → ComesTo old new piece
    → octets_there new ≡ octets_there old ++ piece
there_on old new name piece len filling comes = is_there new name len (octets_there old ++ piece) (comes name (octets_there old) len filling)

pub begun_on : (old new : WorldKept) (name piece : List ℕ) (len : ℕ) → IsFilling old name len (octets_there old) → ComesTo old new piece → IsBegun new
begun_on old new name piece len filling comes = subst IsSome (sym (comes name (octets_there old) len filling)) refl

pub part_on : (old new : WorldKept) (name piece : List ℕ) (len done n : ℕ) → HasPart old name len done → ComesTo old new piece → length piece ≡ n
    → AreOctets piece → HasPart new name len (done + n)
part_on old new name piece len done n part comes long octets =
    let there = there_on old new name piece len part.filling comes in
    let count = part.count in
    let sum : length (octets_there old ++ piece) ≡ length (octets_there old) + length piece = length-append (octets_there old) piece in
    record {
      filling = subst (IsFilling new name len) (sym there) (comes name (octets_there old) len part.filling);
      count = omega (arith, count, sum, long) ∙ ap length (sym there);
      are_octets = subst AreOctets (sym there) (octets_both (octets_there old) piece part.are_octets octets);
    }

-- the job of the octets that are kept
pub job_kept : (keeps : Bool) (name octets : List ℕ) (copy : Option (List ℕ)) (at_hand : Option Job)
    → at_hand ≡ option_map (λ (bytes : List ℕ). job.File name bytes) copy → copy ≡ octets_at keeps octets → at_hand ≡ told_at keeps (job.File name octets)
job_kept true name octets copy at_hand is kept = is ∙ ap (option_map (λ (bytes : List ℕ). job.File name bytes)) kept
job_kept false name octets copy at_hand is kept = is ∙ ap (option_map (λ (bytes : List ℕ). job.File name bytes)) kept

-- a file of which all was read
front_whole : (files : Told) (name octets : List ℕ) (len : ℕ) → IsLength files name len → length octets ≡ len → IsFront files name octets
    → IsContent files name octets
front_whole None name octets len is whole front = tt
front_whole (Some fs) name octets len is whole front = go (content_of fs name) refl is
  where
    go : (found : Option (List ℕ)) → content_of fs name ≡ found → option_map length found ≡ Some len → content_of fs name ≡ Some octets
    go None there e = absurd (cc)
    go (Some all) there e =
        let same : length all ≡ len = cc in
        let at_most : length all ≤ length octets = omega (arith, same, whole) in
        there ∙ ap Some (sym (front all there ∙ take_all (length octets) all at_most))

pub reads_begin : (start : WorldKept) (files : Told) (name : List ℕ) (len : ℕ) → IsFilling start name len [] → IsReading start start files name len []
reads_begin start files name len filling = record {
  profile = refl;
  filling = filling;
  within = omega arith;
  front = empty files;
  begun = λ w h. h;
}
  where
    empty : (files : Told) → IsFront files name []
    empty None = tt
    empty (Some fs) = λ all there. refl

pub reads_end : (start now : WorldKept) (files : Told) (name octets : List ℕ) (len : ℕ) → IsLength files name len → len ≤ length octets
    → IsReading start now files name len octets → HasRead start now files name len octets
reads_end start now files name octets len is most r =
    let whole : length octets ≡ len = let within = r.within in omega (arith, within, most) in
    record { profile = r.profile; filling = r.filling; whole = whole; content = front_whole files name octets len is whole r.front; begun = r.begun }

-- ---- what the sender gives to a file

pub refused_event : (old new : WorldKept) (by : Origin) (name copy : List ℕ) (len now : ℕ) (failed : SendFault) → copy ≡ name → failed ≢ send.Memory
    → IsRefused old new copy len failed → IsEvent old new (Commanded by (file_of_length name len) now) (λ answer. answer ≡ Gave (Err failed))
refused_event old new by name copy len now failed same some refused =
    subst (λ n. IsEvent old new (Commanded by (file_of_length n len) now) (λ answer. answer ≡ Gave (Err failed))) same
    (refused by (replicate len 0) now (length-replicate len 0) some)

-- A file that was begun and accepted, from the world as it was before it was begun.
pub taken_event : (old begun new : WorldKept) (files : Told) (by : Origin) (name copy : List ℕ) (len now : ℕ) (keeps : Bool) (gave : FileGave) → copy ≡ name
    → begun.p ≡ old.p → new.p ≡ begun.p → ((w : World) → StandsFor old w → HasBegun begun w copy len [])
    → AcceptsFile begun new files by name len now keeps gave → IsFileGave old new files by name len now keeps gave
taken_event old begun new files by name copy len now keeps (Refused back failed) same p q start a = absurd a
taken_event old begun new files by name copy len now keeps (Accepted at_hand receipt) same p q start a = record {
  octets = a.octets;
  at_hand_is = a.at_hand_is;
  are_octets = a.are_octets;
  content = a.content;
  event = is_event old new (Commanded by (job.File name a.octets) now) (λ answer. answer ≡ Gave (Ok receipt)) (q ∙ p)
      (λ w st.
      subst (λ (s : Settings). StandsFor new (world_step s w (Commanded by (job.File name a.octets) now)).0
      × ((world_step s w (Commanded by (job.File name a.octets) now)).1 ≡ Gave (Ok receipt))) p
      (a.stands w (subst (λ n. HasBegun begun w n len []) same (start w st))));
}

pub taken_ok : (old begun new : WorldKept) (files : Told) (by : Origin) (name copy : List ℕ) (len now : ℕ) (keeps : Bool) (r : Result FileGave SessionFault) → copy ≡ name
    → begun.p ≡ old.p → ((w : World) → StandsFor old w → HasBegun begun w copy len []) → IfOk r (λ _. new.p ≡ begun.p)
    → IfOk r (λ gave. AcceptsFile begun new files by name len now keeps gave) → IfOk r (λ gave. IsFileGave old new files by name len now keeps gave)
taken_ok old begun new files by name copy len now keeps (Ok gave) same p start q a = taken_event old begun new files by name copy len now keeps gave same p q start a
taken_ok old begun new files by name copy len now keeps (Err e) same p start q a = tt

pub refused_gave : (old new : WorldKept) (files : Told) (by : Origin) (name copy : List ℕ) (len now : ℕ) (keeps : Bool) (refusal : Option (List ℕ) × SendFault)
    → copy ≡ name → IsRefused old new copy len refusal.1 → GivesBack copy refusal
    → IfOk (refusal_of refusal.0 refusal.1) (λ gave. IsFileGave old new files by name len now keeps gave)
refused_gave old new files by name copy len now keeps refusal same refused (inl none) =
    subst (λ (o : Option (List ℕ)). IfOk (refusal_of o refusal.1) (λ gave. IsFileGave old new files by name len now keeps gave)) (sym none.1) tt
refused_gave old new files by name copy len now keeps refusal same refused (inr some) =
    subst (λ (o : Option (List ℕ)). IfOk (refusal_of o refusal.1) (λ gave. IsFileGave old new files by name len now keeps gave)) (sym some.1)
    (same, refused_event old new by name copy len now refusal.1 same some.0 refused)

pub refused_stops : (files : Told) (name : List ℕ) (back : Option (List ℕ)) (failed : SendFault) → IfErr (refusal_of back failed) (λ stop. IsOfFile files name stop)
refused_stops files name None failed = tt
refused_stops files name (Some n) failed = tt

pub refused_cause : (back : Option (List ℕ)) (failed : SendFault) (count : ℕ) → FilesCause (refusal_of back failed) count count
refused_cause None failed count output network = refl
refused_cause (Some n) failed count output network = refl

-- ---- the run

pub length_quiet : (by : Origin) (name : List ℕ) (len : ℕ) (failed : SendFault) → IsQuietEvent (event.Length by name len failed)
length_quiet by name len failed = record { no_offer = refl; no_answer = refl; no_turn = refl; no_outcome = refl; no_take = λ network past. tt }

-- a file's command is told each time
told_there : (first : Bool) (line : Line) (name : List ℕ) → line.verb ≡ verb.File name → telling (offering first line) ≡ Some line
told_there true line name is = refl
told_there false line name is = ap (λ v. elim (job_of v) [ Some j ↦ None | None ↦ Some line ]) is

pub gives_file : (x : Context) (k : RunKept) (world : WorldKept) (place : ℕ) (line : Line) (first : Bool) (name octets : List ℕ) (receipt : Receipt)
    (instance : ℕ) (network : Network) (written : Pieces) → line.verb ≡ verb.File name → world.p ≡ k.world.p → AreOctets octets → IsContent x.files name octets
    → IsEvent k.world world (Commanded (origin_of line) (job.File name octets) k.now) (λ answer. answer ≡ Gave (Ok receipt))
    → ((w : World) → StandsFor k.world w → instance ≡ w.sender.current.id) → IsDue x k place line first network written
    → IsAnswered x (moved_to k world) place line (event.Job (origin_of line) (Some (job.File name octets)) (Ok receipt)) (Ok receipt)
    (gave_line (origin_of line) instance line.verb (Ok receipt)) network written
gives_file x k world place line first name octets receipt instance network written is same are content moves in_instance due =
    let here = due.here in
    let s = here.so_far in
    let w = here.world in
    let by = origin_of line in
    let its = job.File name octets in
    let j = judged_of x k w (offering first line) in
    let e : Event = event.Job by (Some its) (Ok receipt) in
    let step = world_step k.p w (Commanded by its k.now) in
    let stepped : StandsFor world step.0 × (step.1 ≡ Gave (Ok receipt)) =
    subst (λ (q : Settings). StandsFor world (world_step q w (Commanded by its k.now)).0 × ((world_step q w (Commanded by its k.now)).1 ≡ Gave (Ok receipt)))
    s.all.world (moves.steps w s.stands) in
    let next = given x k w step.0 first line (Ok receipt) in
    let follows : CommandOffered j by (Some its) (Ok receipt) next = record {
      line = line;
      job = its;
      named = refl;
      due = inl (record {
        place = told_there first line name is;
        told_is = refl;
        its_job = subst (λ v. IsJobOf x.files v its) (sym is) (refl, content);
        read = refl;
      });
      gives = stepped.1;
      then = refl;
    } in
    record {
      first = first;
      before = w;
      after = step.0;
      all = has_all x k world same s.all;
      stands = stepped.0;
      line_is = due.line_is;
      journal = s.journal;
      kept = s.kept;
      leads = s.leads;
      accepted = (judges_what_follows j next e).1 (here.quiet, follows);
      octets = are;
      text_is = gave_text x k w first line by (Some its) (Ok receipt) instance (sym (in_instance w s.stands));
    }

pub refuses_file : (x : Context) (k : RunKept) (world : WorldKept) (place : ℕ) (line : Line) (first : Bool) (name back : List ℕ) (len : ℕ) (failed : SendFault)
    (network : Network) (written : Pieces) → line.verb ≡ verb.File name → back ≡ name → world.p ≡ k.world.p → IsLength x.files name len
    → IsEvent k.world world (Commanded (origin_of line) (file_of_length name len) k.now) (λ answer. answer ≡ Gave (Err failed))
    → IsDue x k place line first network written
    → IsAnswered x (moved_to k world) place line (event.Length (origin_of line) back len failed) (Err failed)
    (option_map (no_line (origin_of line)) (reason_of failed)) network written
refuses_file x k world place line first name back len failed network written is one same long moves due =
    subst (λ b. IsAnswered x (moved_to k world) place line (event.Length (origin_of line) b len failed) (Err failed)
    (option_map (no_line (origin_of line)) (reason_of failed)) network written) (sym one)
    (let here = due.here in
    let s = here.so_far in
    let w = here.world in
    let by = origin_of line in
    let its = file_of_length name len in
    let j = judged_of x k w (offering first line) in
    let e : Event = event.Length by name len failed in
    let step = world_step k.p w (Commanded by its k.now) in
    let stepped : StandsFor world step.0 × (step.1 ≡ Gave (Err failed)) =
    subst (λ (q : Settings). StandsFor world (world_step q w (Commanded by its k.now)).0 × ((world_step q w (Commanded by its k.now)).1 ≡ Gave (Err failed)))
    s.all.world (moves.steps w s.stands) in
    let next = given x k w step.0 first line (Err failed) in
    let follows : FileRefused j by name len failed next = record {
      line = line;
      place = told_there first line name is;
      named = refl;
      its_name = is;
      its_length = long;
      gives = stepped.1;
      then = refl;
    } in
    record {
      first = first;
      before = w;
      after = step.0;
      all = has_all x k world same s.all;
      stands = stepped.0;
      line_is = due.line_is;
      journal = s.journal;
      kept = s.kept;
      leads = s.leads;
      accepted = (judges_what_follows j next e).1 (here.quiet, follows);
      octets = tt;
      text_is = refl;
    })

-- ---- where the files stop a run

-- the call that is due where a file's command is offered
file_due : (first : Bool) (line : Line) (name : List ℕ) (j : Judged) → line.verb ≡ verb.File name → call_at (offering first line) j ≡ Some (LooksIntoFile name)
file_due true line name j is = ap file_call is
file_due false line name j is = ap file_call is

-- the ending where it is absent
absent_at : (files : Told) (v : Verb) (name : List ℕ) → v ≡ verb.File name → may_be_absent files name ≡ true → absent_of files v ≡ Some (Absent name)
absent_at files v name is absent = ap (absent_of files) is ∙ ap (λ b. elim b as (λ _. Option Ending) [ true ↦ Some (Absent name) | false ↦ None ]) absent

file_absent : (first : Bool) (line : Line) (name : List ℕ) (j : Judged) → line.verb ≡ verb.File name → may_be_absent j.files name ≡ true
    → ends_in (offering first line) j ≡ Some (Absent name)
file_absent true line name j is absent = absent_at j.files line.verb name is absent
file_absent false line name j is absent = absent_at j.files line.verb name is absent

pub file_stops : (x : Context) (k : RunKept) (stop : SessionFault) (place : ℕ) (line : Line) (first : Bool) (name : List ℕ) (network : Network) (written : Pieces)
    → line.verb ≡ verb.File name → IsOfFile x.files name stop → IsDue x k place line first network written → Stopped x stop network written
file_stops x k fault.Memory place line first name network written is of due = memory_at x k (offering first line) network written due.here
file_stops x k fault.Files place line first name network written is of due =
    let s = due.here.so_far.leads in
    let j = judged_of x k due.here.world (offering first line) in
    record {
      journal = due.here.so_far.journal;
      last = j;
      begun = s.judged;
      told = s.told;
      taken = s.taken;
      moments = s.moments;
      board = s.board;
      octets = s.octets;
      leaves = (
        s.lines,
        record {
          call = LooksIntoFile name;
          due = ap (λ found. elim found [ Some news ↦ None | None ↦ call_at (offering first line) j ]) due.here.quiet ∙ file_due first line name j is;
          of_kind = tt;
        },
      );
    }
file_stops x k (fault.Absent other) place line first name network written is of due =
    let s = due.here.so_far.leads in
    let j = judged_of x k due.here.world (offering first line) in
    record {
      journal = due.here.so_far.journal;
      last = j;
      begun = s.judged;
      told = s.told;
      taken = s.taken;
      moments = s.moments;
      board = s.board;
      octets = s.octets;
      leaves = (s.lines, file_absent first line name j is of.1 ∙ ap (λ n. Some (Absent n)) (sym of.0));
    }
file_stops x k fault.Write place line first name network written is of due = absurd of
file_stops x k fault.Fabric place line first name network written is of due = absurd of

-- by what the run is seen as, by the name as a string, and by the files as they are told

-- what was read of the file that was accepted
pub accepted_as : (old new : WorldKept) (files : Told) (by : Origin) (named : List ℕ) (len now : ℕ) (keeps : Bool) (at_hand : Option Job)
    (receipt : Receipt) (gave : FileGave) → gave ≡ Accepted at_hand receipt → IsFileGave old new files by named len now keeps gave
    → IsTaken old new files by named now keeps at_hand receipt
accepted_as old new files by named len now keeps at_hand receipt gave accepted was =
    subst (λ g. IsFileGave old new files by named len now keeps g) accepted was

-- its job is at hand, where a journal is kept
pub file_at_hand : (kept : Option (List Event)) (keeps : Bool) (name named octets : List ℕ) (at_hand : Option Job) → named ≡ name → keeps ≡ is_some kept
    → at_hand ≡ told_at keeps (job.File named octets) → IsAtHand kept at_hand (Some (job.File name octets))
file_at_hand None keeps name named octets at_hand one by is = tt
file_at_hand (Some journal) keeps name named octets at_hand one by is =
    is ∙ ap (λ b. told_at b (job.File named octets)) by ∙ ap (λ n. Some (job.File n octets)) one

pub gives_file_at : (x : Context) (k v : RunKept) (world : WorldKept) (place : ℕ) (line : Line) (first : Bool) (name named : List ℕ) (keeps : Bool)
    (at_hand : Option Job) (receipt : Receipt) (files : Told) (by : Origin) (instance : ℕ) (network : Network) (written : Pieces)
    → k ≡ v → (t : IsTaken k.world world files by named k.now keeps at_hand receipt) → line.verb ≡ verb.File name → named ≡ name → by ≡ origin_of line
    → x.files ≡ files → world.p ≡ k.world.p → ((w : World) → StandsFor k.world w → instance ≡ w.sender.current.id)
    → IsDue x v place line first network written
    → IsAnswered x (moved_to k world) place line (event.Job (origin_of line) (Some (job.File name t.octets)) (Ok receipt)) (Ok receipt)
    (gave_line (origin_of line) instance line.verb (Ok receipt)) network written
gives_file_at x k v world place line first name named keeps at_hand receipt files by instance network written seen t is one own same moved in_instance due =
    gives_file x k world place line first name t.octets receipt instance network written is moved t.are_octets
    (subst (λ fs. IsContent fs name t.octets) (sym same) (subst (λ n. IsContent files n t.octets) one t.content))
    (subst (λ o. IsEvent k.world world (Commanded o (job.File name t.octets) k.now) (λ answer. answer ≡ Gave (Ok receipt))) own
    (subst (λ n. IsEvent k.world world (Commanded by (job.File n t.octets) k.now) (λ answer. answer ≡ Gave (Ok receipt))) one t.event))
    in_instance (subst (λ (u : RunKept). IsDue x u place line first network written) (sym seen) due)

pub refuses_file_at : (x : Context) (k v : RunKept) (world : WorldKept) (place : ℕ) (line : Line) (first : Bool) (name named back : List ℕ) (len : ℕ)
    (failed : SendFault) (keeps : Bool) (gave : FileGave) (files : Told) (by : Origin) (network : Network) (written : Pieces) → k ≡ v → line.verb ≡ verb.File name
    → named ≡ name → by ≡ origin_of line → x.files ≡ files → world.p ≡ k.world.p → gave ≡ Refused back failed → IsLength files named len
    → IsFileGave k.world world files by named len k.now keeps gave → IsDue x v place line first network written
    → IsAnswered x (moved_to k world) place line (event.Length by back len failed) (Err failed) (option_map (no_line by) (reason_of failed)) network written
refuses_file_at x k v world place line first name named back len failed keeps gave files by network written seen is one own same moved refused long was due =
    let t : (back ≡ named) × IsEvent k.world world (Commanded by (file_of_length named len) k.now) (λ answer. answer ≡ Gave (Err failed)) =
    subst (λ g. IsFileGave k.world world files by named len k.now keeps g) refused was in
    subst (λ o. IsAnswered x (moved_to k world) place line (event.Length o back len failed) (Err failed) (option_map (no_line o) (reason_of failed)) network written)
    (sym own)
    (refuses_file x k world place line first name back len failed network written is (t.0 ∙ one) moved
    (subst (λ fs. IsLength fs name len) (sym same) (subst (λ n. IsLength files n len) one long))
    (subst (λ o. IsEvent k.world world (Commanded o (file_of_length name len) k.now) (λ answer. answer ≡ Gave (Err failed))) own
    (subst (λ n. IsEvent k.world world (Commanded by (file_of_length n len) k.now) (λ answer. answer ≡ Gave (Err failed))) one t.1))
    (subst (λ (u : RunKept). IsDue x u place line first network written) (sym seen) due))

pub of_turned : (files told : Told) (name named : List ℕ) (stop : SessionFault) → named ≡ name → told ≡ files → IsOfFile files named stop → IsOfFile told name stop
of_turned files told name named stop one same of = subst (λ fs. IsOfFile fs name stop) (sym same) (subst (λ n. IsOfFile files n stop) one of)

-- ---- causes

-- calls of the files of which none failed, and then a write
pub write_after : {T : Type 0} (r : Result T SessionFault) (output written files then : ℕ) → then ≡ files → WriteCause r output written
    → CommandCause r output written files then
write_after r output written files then same cause network =
    subst (λ f. HasCause r (counted output network files) (counted written network f)) (sym same) (cause network files)

-- calls of the files, of which the last failed
pub files_after : {T : Type 0} (r : Result T SessionFault) (y failed : SessionFault) (output before middle now : ℕ) → r ≡ Err y → y ≡ failed → middle ≡ before
    → ((output network : ℕ) → counted output network now ≡ counts_after failed (counted output network middle)) → CommandCause r output output before now
files_after r y failed output before middle now is same none cause network =
    subst (λ s. HasCause s (counted output network before) (counted output network now)) (sym is)
    (subst (λ f. counted output network now ≡ counts_after f (counted output network before)) (sym same)
    (subst (λ m. counted output network now ≡ counts_after failed (counted output network m)) none (cause output network)))
