-- No reached state has more events behind it than come of the cards that were read, whatever the devices are.
use Rattle.std.proofs.Common.{◌≡◌, ℕ, ◌+◌, ◌*◌, ◌-◌, ◌≤◌, List, [], ◌∷◌, length, length-append, map, refl, sym, ◌∙◌, ap, subst, arith}
use Rattle.std.proofs.lemmas.List.{length-map, append-nil}
use Rattle.network_run.specs.Law.{AreEnabled, run}
use Rattle.network_law.specs.Network.{IsOne, happens, set}
use Rattle.network_law.specs.Kept.{Stands, passed}
use Rattle.solo_base.specs.declared.outcome.Side.TheVariants.{Sender, Receiver}
use Rattle.batch_procs.specs.Jobs.{Jobs, AreJobs}
use Rattle.batch_procs.specs.Parcels.{is_last}
use Rattle.twin_law.specs.Process.{Entry}
use Rattle.twin_law.specs.Twin.{twin, TwinState, TwinEvent, read_off}
use Rattle.twin_law.specs.Opening.{Opening}
use Rattle.twin_law.specs.TheLaw.{the_law, first_state, IsReached}
use Rattle.twin_law.specs.Told.{read_all}
use Rattle.twin_law.specs.Left.{entries_in, events_so_far, line_pages, most_with}
use Rattle.twin_law.proofs.Lawful.{each-process}
use Rattle.twin_law.proofs.InputAlone.{deck_feeds}
use Rattle.twin_law.proofs.CardReads.{put-first}
use Rattle.twin_law.proofs.Devices.{reached-centre}
use Rattle.twin_law.proofs.CallsMade.{made, made-most}
use Rattle.twin_law.proofs.Todo.{Any, card_todo, none_todo, card-has, input-has, output-has, printer-has}
use Rattle.twin_law.proofs.Pays.{spot, sum_of, reads_one, prints_one, nothing, paid-most, card-pays, input-pays, output-pays, printer-pays}
use Rattle.twin_law.proofs.Lengths.{deck-length, part-length}
use Rattle.twin_law.proofs.Counted.{all_made, sleepers, events-counted, few-sleep}
use Rattle.twin_law.proofs.Credits.{sends, owes}
use Rattle.twin_law.proofs.Worth.{input_worth, input-credit, output_worth, output-credit, printer_worth, printer-credit}
use Rattle.twin_law.proofs.JobCredits.{JobKeeps, job_worth, job-a-credit, job-b-credit}
use Rattle.twin_law.proofs.JobCalls.{calls-a, calls-b, no-sum}

-- ---- plain numbers
parts : (k a b : ℕ) → k * (a + b) ≡ k * a + k * b
parts k a b = grind arith

-- so many times no more are no more
pub times-less : (k a b : ℕ) → a ≤ b → k * a ≤ k * b
times-less k a b less =
    let d = b - a in
    let e : a + d ≡ b = omega (arith, less) in
    let all : k * b ≡ k * a + k * d = ap (λ n. k * n) (sym e) ∙ parts k a d in
    omega (arith, all)

thrice : (k n : ℕ) → k * (3 * n) ≡ 3 * (k * n)
thrice k n = grind arith

whole : (k n : ℕ) → (7647 * k + 7744) * n ≡ 7647 * (k * n) + 7744 * n
whole k n = grind arith

behind-other : (a b c d : ℕ) → a ≤ b + c → b ≤ d → a ≤ d + c
behind-other a b c d e f = omega (arith, e, f)

-- both job processes put so many pages for each that they took
both-sides : (k n s4 s5 r2 r3 : ℕ) → s4 ≤ k * r2 → s5 ≤ k * r3 → r2 + r3 ≤ 3 * n → s4 + s5 ≤ 3 * (k * n)
both-sides k n s4 s5 r2 r3 a b few =
    let sum = parts k r2 r3 in
    let all = times-less k (r2 + r3) (3 * n) few in
    let three = thrice k n in
    omega (arith, a, b, sum, all, three)

in-all : (c kn rd pr s1 r1 s2 r2 s3 r3 s4 r4 s5 r5 s6 r6 n2 n5 m1 m2 m3 m4 m5 m6 asleep : ℕ) → rd ≡ c → n2 ≡ 0 → n5 ≡ 0
    → m1 ≤ 2 * (s1 + 0) + 7 * 0 + 5 * 0 + rd + (8 + 2 * 1) → m2 ≤ 2 * (r1 + 0) + 7 * (s2 + (s3 + 0)) + 5 * 0 + n2 + (8 + 2 * 3)
    → m3 ≤ 7 * (r2 + (s4 + 0)) + 2530 * (r2 + 0) + 21 → m4 ≤ 7 * (r3 + (s5 + 0)) + 2530 * (r3 + 0) + 21
    → m5 ≤ 2 * (s6 + 0) + 7 * (r4 + (r5 + 0)) + 5 * 0 + n5 + (8 + 2 * 3) → m6 ≤ 2 * (r6 + 0) + 7 * 0 + 5 * 0 + pr + (8 + 2 * 1)
    → s1 ≤ c + 1 → r1 ≤ s1 → s2 + s3 ≤ 3 * r1 → r2 ≤ s2 → r3 ≤ s3 → s4 + s5 ≤ 3 * kn → r4 ≤ s4 → r5 ≤ s5 → s6 ≤ 507 * (r4 + r5) → r6 ≤ s6 → pr ≤ r6
    → asleep ≤ 18
    → m1 + m2 + m3 + m4 + m5 + m6 + asleep ≤ 7647 * kn + 7744 * (c + 1)
in-all c kn rd pr s1 r1 s2 r2 s3 r3 s4 r4 s5 r5 s6 r6 n2 n5 m1 m2 m3 m4 m5 m6 asleep e0 e2 e5 a1 a2 a3 a4 a5 a6 b1 b2 b3 b4 b5 b6 b7 b8 b9 b10 b11 b12 =
    omega (arith, e0, e2, e5, a1, a2, a3, a4, a5, a6, b1, b2, b3, b4, b5, b6, b7, b8, b9, b10, b11, b12)

two-of : (many more worth taken : ℕ) → many + (more + 0) + 0 + worth ≤ 3 * (taken + 0) → many + more ≤ 3 * taken
two-of many more worth taken few = omega (arith, few)

lines-of : (many sum worth one two : ℕ) → many + 0 + sum + worth ≤ 507 * (one + (two + 0)) → many ≤ 507 * (one + two)
lines-of many sum worth one two few = omega (arith, few)

prints-of : (sum worth taken : ℕ) → 0 + sum + worth ≤ 1 * (taken + 0) → sum ≤ taken
prints-of sum worth taken few = omega (arith, few)

pages-of : (many sum worth product : ℕ) → many + 0 + sum + worth ≤ product → many ≤ product
pages-of many sum worth product few = omega (arith, few)

-- ---- each event is one more entry
module _ {L : Type 0} (J : Jobs L) where
  pub one-entry : (s : TwinState L) (event : TwinEvent L) → IsOne (twin J) event.process → events_so_far (happens (twin J) s event) ≡ events_so_far s + 1
  one-entry s event one =
      each-process J (λ p. entries_in (set s.histories p (event.entry ∷ s.histories p)) ≡ entries_in s.histories + 1) event.process one
      (omega arith) (omega arith) (omega arith) (omega arith) (omega arith) (omega arith)

  entries-are : (s : TwinState L) (events : List (TwinEvent L)) → AreEnabled (the_law J) s events
      → events_so_far (run (the_law J) s events) ≡ events_so_far s + length events
  entries-are s [] are = omega arith
  entries-are s (event ∷ events) are =
      let next = happens (twin J) s event in
      let rest = entries-are next events are.1 in
      let one = one-entry s event are.0.one in
      omega (arith, rest, one)

  read-length : (h : List (Entry L)) → sum_of reads_one h ≡ length (read_all h)
  read-length [] = refl
  read-length (entry ∷ h) = (let rest = read-length h in let both = length-append (read_all h) (read_off entry) in omega (arith, rest, both))

-- ---- the sum of all
module _ {L : Type 0} {J : Jobs L} (jobs : AreJobs J) (o : Opening J) (s : TwinState L) (reached : IsReached o s) where
  abbrev st : Stands (twin J) (first_state o) s
  st = (reached-centre J o s reached).stands

  abbrev sent : ℕ → ℕ
  sent b = length (passed (twin J) s b Sender)

  abbrev got : ℕ → ℕ
  got b = length (passed (twin J) s b Receiver)

  -- the marks of what was taken are the first of those that were put
  less-got : (b : ℕ) → got b ≤ sent b
  less-got b =
      let put = passed (twin J) s b Sender in
      let took = passed (twin J) s b Receiver in
      let marks = (s.buffers b).marks in
      let all = ap length (st.buffers.hand_over b).marks.in_order in
      let both = length-append (map is_last took) marks in
      let x = length-map took is_last in
      let y = length-map put is_last in
      omega (arith, all, both, x, y)

  abbrev cards : ℕ
  cards = length (read_all (s.histories 1))

  sent-1 : sent 1 ≤ cards + 1
  sent-1 =
      let all = read_all (s.histories 1) in
      let first = put-first J (s.histories 1) all [] (st.follows 1) (sym (append-nil all)) (λ e. refl) in
      let a = part-length (passed (twin J) s 1 Sender) (deck_feeds all) first in
      let b = deck-length L all in
      omega (arith, a, b)

  sent-23 : sent 2 + sent 3 ≤ 3 * got 1
  sent-23 =
      let none = no-sum {L = L} (s.histories 2) in
      let few = (owes J 2 (sends (2 ∷ 3 ∷ [])) (spot 1 Receiver ∷ []) nothing 3 Any input_worth (omega arith, omega arith) (input-credit J) (s.histories 2)
      (st.follows 2)).few in
      omega (arith, none, few)

  sent-4 : sent 4 ≤ line_pages J * (got 2 + 0)
  sent-4 = pages-of _ _ _ _ (owes J 3 (sends (4 ∷ [])) (spot 2 Receiver ∷ []) nothing (line_pages J) (JobKeeps jobs) (job_worth jobs)
      (omega arith, omega arith) (job-a-credit jobs) (s.histories 3) (st.follows 3)).few

  sent-5 : sent 5 ≤ line_pages J * (got 3 + 0)
  sent-5 = pages-of _ _ _ _ (owes J 4 (sends (5 ∷ [])) (spot 3 Receiver ∷ []) nothing (line_pages J) (JobKeeps jobs) (job_worth jobs)
      (omega arith, omega arith) (job-b-credit jobs) (s.histories 4) (st.follows 4)).few

  sent-6 : sent 6 ≤ 507 * (got 4 + got 5)
  sent-6 = lines-of _ _ _ _ _ (owes J 5 (sends (6 ∷ [])) (spot 4 Receiver ∷ spot 5 Receiver ∷ []) nothing 507 Any output_worth (omega arith, omega arith)
      (output-credit J) (s.histories 5) (st.follows 5)).few

  prints-few : sum_of prints_one (s.histories 6) ≤ got 6
  prints-few = prints-of _ _ _ (owes J 6 [] (spot 6 Receiver ∷ []) prints_one 1 Any printer_worth (omega arith, omega arith) (printer-credit J)
      (s.histories 6) (st.follows 6)).few

  made-1 : made (s.histories 1) ≤ 2 * (sent 1 + 0) + 7 * 0 + 5 * 0 + sum_of reads_one (s.histories 1) + (8 + 2 * 1)
  made-1 = behind-other _ _ _ _ (made-most J 1 (omega arith, omega arith) Any card_todo (card-has L) (s.histories 1) 1 (st.follows 1) (omega arith)
      (omega arith))
      (paid-most J 1 (omega arith, omega arith) (spot 1 Sender ∷ []) [] [] reads_one (card-pays J) (s.histories 1) (st.follows 1))

  made-2 : made (s.histories 2) ≤ 2 * (got 1 + 0) + 7 * (sent 2 + (sent 3 + 0)) + 5 * 0 + sum_of {L = L} nothing (s.histories 2) + (8 + 2 * 3)
  made-2 = behind-other _ _ _ _ (made-most J 2 (omega arith, omega arith) Any none_todo (input-has L) (s.histories 2) 3 (st.follows 2) (omega arith)
      (omega arith))
      (paid-most J 2 (omega arith, omega arith) (spot 1 Receiver ∷ []) (spot 2 Sender ∷ spot 3 Sender ∷ []) [] nothing (input-pays J) (s.histories 2)
      (st.follows 2))

  made-5 : made (s.histories 5) ≤ 2 * (sent 6 + 0) + 7 * (got 4 + (got 5 + 0)) + 5 * 0 + sum_of {L = L} nothing (s.histories 5) + (8 + 2 * 3)
  made-5 = behind-other _ _ _ _ (made-most J 5 (omega arith, omega arith) Any none_todo (output-has L) (s.histories 5) 3 (st.follows 5) (omega arith)
      (omega arith))
      (paid-most J 5 (omega arith, omega arith) (spot 6 Sender ∷ []) (spot 4 Receiver ∷ spot 5 Receiver ∷ []) [] nothing (output-pays J) (s.histories 5)
      (st.follows 5))

  made-6 : made (s.histories 6) ≤ 2 * (got 6 + 0) + 7 * 0 + 5 * 0 + sum_of prints_one (s.histories 6) + (8 + 2 * 1)
  made-6 = behind-other _ _ _ _ (made-most J 6 (omega arith, omega arith) Any none_todo (printer-has L) (s.histories 6) 1 (st.follows 6) (omega arith)
      (omega arith))
      (paid-most J 6 (omega arith, omega arith) (spot 6 Receiver ∷ []) [] [] prints_one (printer-pays J) (s.histories 6) (st.follows 6))

  pages-taken : got 2 + got 3 ≤ 3 * (cards + 1)
  pages-taken =
      let a = sent-23 in let b = sent-1 in let c = less-got 1 in let d = less-got 2 in let e = less-got 3 in
      omega (arith, a, b, c, d, e)

  pages-put : sent 4 + sent 5 ≤ 3 * (line_pages J * (cards + 1))
  pages-put = both-sides (line_pages J) (cards + 1) (sent 4) (sent 5) (got 2 + 0) (got 3 + 0) sent-4 sent-5 (let few = pages-taken in omega (arith, few))

  few-made : all_made s + sleepers s ≤ most_with J cards
  few-made =
      subst (λ n. all_made s + sleepers s ≤ n) (sym (whole (line_pages J) (cards + 1)))
      (in-all cards (line_pages J * (cards + 1)) (sum_of reads_one (s.histories 1)) (sum_of prints_one (s.histories 6))
      (sent 1) (got 1) (sent 2) (got 2) (sent 3) (got 3) (sent 4) (got 4) (sent 5) (got 5) (sent 6) (got 6)
      (sum_of {L = L} nothing (s.histories 2)) (sum_of {L = L} nothing (s.histories 5))
      (made (s.histories 1)) (made (s.histories 2)) (made (s.histories 3)) (made (s.histories 4)) (made (s.histories 5)) (made (s.histories 6)) (sleepers s)
      (read-length J (s.histories 1)) (no-sum (s.histories 2)) (no-sum (s.histories 5))
      made-1 made-2 (calls-a jobs (s.histories 3) (st.follows 3)) (calls-b jobs (s.histories 4) (st.follows 4)) made-5 made-6
      sent-1 (less-got 1) sent-23 (less-got 2) (less-got 3) pages-put (less-got 4) (less-got 5) sent-6 (less-got 6) prints-few
      (few-sleep J (first_state o) s st))

module _ {L : Type 0} {J : Jobs L} (jobs : AreJobs J) (o : Opening J) where
  all-by : (s : TwinState L) (events : List (TwinEvent L)) → AreEnabled (the_law J) (first_state o) events → run (the_law J) (first_state o) events ≡ s
      → events_so_far s ≤ most_with J (length (read_all (s.histories 1)))
  all-by s events enabled leads =
      subst (λ s. events_so_far s ≤ most_with J (length (read_all (s.histories 1)))) leads
      (let now = run (the_law J) (first_state o) events in
      let start = reached-centre J o (first_state o) record { events = []; enabled = tt; leads = refl } in
      let few = few-made jobs o now record { events = events; enabled = enabled; leads = refl } in
      let counted = events-counted J (first_state o) (first_state o) events enabled start.stands in
      let entries = entries-are J (first_state o) events enabled in
      omega (arith, few, counted, entries))

  pub few-events : (s : TwinState L) → IsReached o s → events_so_far s ≤ most_with J (length (read_all (s.histories 1)))
  few-events s reached = all-by s reached.events reached.enabled reached.leads
