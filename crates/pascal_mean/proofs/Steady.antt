-- Parts of a program whose calls are answered in two ways: as long as the answers agree, they do the same.
use Rattle.std.proofs.Common.{◌≡◌, ℕ, ◌+◌, Bool, true, false, ◌⊎◌, inr, Option, Some, None, List, [], ◌∷◌, ◌++◌, ℤ, refl, sym, ◌∙◌, ap, subst, append_assoc}
use Rattle.std.specs.Prelude.{nat_lt}
use Rattle.std.proofs.lemmas.List.{append-nil}
use Rattle.solo_base.specs.declared.outcome.ProgResult.{ProgResult}
use Rattle.solo_base.specs.declared.system_call.SysCall.{SysCall}
use Rattle.solo_base.specs.declared.system_call.SysReply.{SysReply}
use Rattle.solo_base.specs.declared.system_call.SysReply.TheVariants as replies
use Rattle.solo_base.specs.RunOutcome.{Ends, Waits}
use Rattle.pascal_mean.specs.Situation.{Answers, Situation, Course, Part, Gives, Over, and_then, choose, end_with, number_or_overflow, time_is_up, take_tick, answered_by, with_call, make_call}
use Rattle.pascal_mean.specs.MoreReplies.{calls_of}

-- ---- What is said of a part

-- the last of these calls was answered, if there is one
abbrev pub IsAnswered : Answers → List SysCall → Type 0
IsAnswered a calls = (calls ≡ []) ⊎ ((reply : SysReply) × (a calls ≡ Some reply))

-- some calls more were made, each of them answered
pub record Grows (a : Answers) (now : Situation) (calls : List SysCall) : Type 0 where
  pub rest : List SysCall
  pub made : calls ≡ now.made ++ rest
  pub answered : IsAnswered a now.made → IsAnswered a calls

-- some calls more were made, and the last of them alone isn't answered
pub record Lingers (a : Answers) (now : Situation) (calls : List SysCall) : Type 0 where
  pub rest : List SysCall
  pub call : SysCall
  pub made : calls ≡ (now.made ++ rest) ++ call ∷ []
  pub answered : IsAnswered a now.made → IsAnswered a (now.made ++ rest)
  pub none : a calls ≡ None

abbrev pub Follows : {A : Type 0} → Answers → Situation → Course A → Type 0
Follows a now (Gives v then_is) = Grows a now then_is.made
Follows a now (Over (Ends r line ticks calls)) = Grows a now calls
Follows a now (Over (Waits calls)) = Lingers a now calls

-- these calls were made first
abbrev pub Begins : {A : Type 0} → List SysCall → Course A → Type 0
Begins calls (Gives v then_is) = (rest : List SysCall) × (then_is.made ≡ calls ++ rest)
Begins calls (Over outcome) = (rest : List SysCall) × (calls_of outcome ≡ calls ++ rest)

-- each of these calls is answered alike
abbrev pub Agree : Answers → Answers → List SysCall → Type 0
Agree a b calls =
    (before after : List SysCall) (call : SysCall) → calls ≡ before ++ call ∷ after → a (before ++ call ∷ []) ≡ b (before ++ call ∷ [])

-- each but the last
abbrev pub AgreeBefore : Answers → Answers → List SysCall → Type 0
AgreeBefore a b calls = (before : List SysCall) (call : SysCall) → calls ≡ before ++ call ∷ [] → Agree a b before

-- what comes of the part where calls are answered otherwise
abbrev pub Extends : {A : Type 0} → Answers → Answers → Course A → Course A → Type 0
Extends a b (Gives v then_is) other = Agree a b then_is.made → other ≡ Gives v then_is
Extends a b (Over (Ends r line ticks calls)) other = Agree a b calls → other ≡ Over (Ends r line ticks calls)
Extends a b (Over (Waits calls)) other = AgreeBefore a b calls → Begins calls other

pub record IsSteady {A : Type 0} (a b : Answers) (part other : Part A) : Type 0 where
  pub follows : (now : Situation) → Follows a now (part now)
  pub follows_too : (now : Situation) → Follows b now (other now)
  pub extends : (now : Situation) → Extends a b (part now) (other now)

-- ---- One after the other

join_lists : {X : Type 0} (a b c d e : List X) → c ≡ a ++ d → b ≡ c ++ e → b ≡ a ++ (d ++ e)
join_lists a b c d e first second = second ∙ ap (λ l. l ++ e) first ∙ append_assoc a d e

grows_on : (a : Answers) (now mid : Situation) (calls : List SysCall) → Grows a now mid.made → Grows a mid calls → Grows a now calls
grows_on a now mid calls first second = record {
  rest = first.rest ++ second.rest;
  made = join_lists now.made calls mid.made first.rest second.rest first.made second.made;
  answered = λ is. second.answered (first.answered is);
}

lingers_on : (a : Answers) (now mid : Situation) (calls : List SysCall) → Grows a now mid.made → Lingers a mid calls → Lingers a now calls
lingers_on a now mid calls first second =
    let before : mid.made ++ second.rest ≡ now.made
    ++ (first.rest ++ second.rest) = join_lists now.made (mid.made ++ second.rest) mid.made first.rest second.rest first.made refl in
    record {
      rest = first.rest ++ second.rest;
      call = second.call;
      made = second.made ∙ ap (λ l. l ++ second.call ∷ []) before;
      answered = λ is. subst (IsAnswered a) before (second.answered (first.answered is));
      none = second.none;
    }

course_on : {A : Type 0} (a : Answers) (now mid : Situation) (k : Course A) → Grows a now mid.made → Follows a mid k → Follows a now k
course_on a now mid (Gives v then_is) first second = grows_on a now mid then_is.made first second
course_on a now mid (Over (Ends r line ticks calls)) first second = grows_on a now mid calls first second
course_on a now mid (Over (Waits calls)) first second = lingers_on a now mid calls first second

begins_on : {A : Type 0} (a : Answers) (calls : List SysCall) (mid : Situation) (k : Course A) (rest : List SysCall) → mid.made ≡ calls ++ rest
    → Follows a mid k → Begins calls k
begins_on a calls mid (Gives v then_is) rest is after =
    (rest ++ after.rest, join_lists calls then_is.made mid.made rest after.rest is after.made)
begins_on a calls mid (Over (Ends r line ticks all)) rest is after =
    (rest ++ after.rest, join_lists calls all mid.made rest after.rest is after.made)
begins_on a calls mid (Over (Waits all)) rest is after = (
  rest
      ++ (after.rest ++ after.call ∷ []),
  join_lists calls all mid.made rest (after.rest ++ after.call ∷ []) is (after.made
      ∙ append_assoc mid.made after.rest (after.call ∷ [])),
)

agree_less : (a b : Answers) (first rest all : List SysCall) → all ≡ first ++ rest → Agree a b all → Agree a b first
agree_less a b first rest all is agree before after call so =
    agree before (after ++ rest) call (is ∙ ap (λ l. l ++ rest) so ∙ append_assoc before (call ∷ after) rest)

follows_on : {A B : Type 0} (a : Answers) (go : A → Part B) → ((v : A) (now : Situation) → Follows a now (go v now)) → (now : Situation) (k : Course A)
    → Follows a now k → Follows a now (and_then k go)
follows_on a go follows now (Gives v mid) first = course_on a now mid (go v mid) first (follows v mid)
follows_on a go follows now (Over (Ends r line ticks calls)) first = first
follows_on a go follows now (Over (Waits calls)) first = first

begins_then : {A B : Type 0} (b : Answers) (go : A → Part B) → ((v : A) (now : Situation) → Follows b now (go v now)) → (calls : List SysCall) (k : Course A)
    → Begins calls k → Begins calls (and_then k go)
begins_then b go follows calls (Gives v mid) (rest, is) = begins_on b calls mid (go v mid) rest is (follows v mid)
begins_then b go follows calls (Over outcome) first = first

extends_from : {A B : Type 0} (a b : Answers) (go : A → Part B) (v : A) (mid : Situation) (k : Course B) (other : Course A)
    → Follows a mid k → (Agree a b mid.made → other ≡ Gives v mid) → Extends a b k (go v mid) → Extends a b k (and_then other go)
extends_from a b go v mid (Gives w then_is) other follows same extends =
    λ agree. ap (λ l. and_then l go) (same (agree_less a b mid.made follows.rest then_is.made follows.made agree)) ∙ extends agree
extends_from a b go v mid (Over (Ends r line ticks calls)) other follows same extends =
    λ agree. ap (λ l. and_then l go) (same (agree_less a b mid.made follows.rest calls follows.made agree)) ∙ extends agree
extends_from a b go v mid (Over (Waits calls)) other follows same extends =
    λ agree.
    let before : Agree a b mid.made = agree_less a b mid.made follows.rest (mid.made
    ++ follows.rest) refl (agree (mid.made ++ follows.rest) follows.call follows.made) in
    subst (Begins calls) (sym (ap (λ l. and_then l go) (same before))) (extends agree)

extends_on : {A B : Type 0} (a b : Answers) (go go_too : A → Part B) → ((v : A) → IsSteady a b (go v) (go_too v)) → (k other : Course A) → Extends a b k other
    → Extends a b (and_then k go) (and_then other go_too)
extends_on a b go go_too steady (Gives v mid) other same =
    extends_from a b go_too v mid (go v mid) other ((steady v).follows mid) same ((steady v).extends mid)
extends_on a b go go_too steady (Over (Ends r line ticks calls)) other same = λ agree. ap (λ l. and_then l go_too) (same agree)
extends_on a b go go_too steady (Over (Waits calls)) other same =
    λ agree. begins_then b go_too (λ v. (steady v).follows_too) calls other (same agree)

pub then_steady : {A B : Type 0} {a b : Answers} {first other : Part A} (go go_too : A → Part B) → IsSteady a b first other
    → ((v : A) → IsSteady a b (go v) (go_too v))
    → IsSteady a b (λ now. and_then (first now) go) (λ now. and_then (other now) go_too)
then_steady {a = a} {b = b} {first = first} {other = other} go go_too steady others = record {
  follows = λ now. follows_on a go (λ v. (others v).follows) now (first now) (steady.follows now);
  follows_too = λ now. follows_on b go_too (λ v. (others v).follows_too) now (other now) (steady.follows_too now);
  extends = λ now. extends_on a b go go_too others (first now) (other now) (steady.extends now);
}

pub choose_steady : {A : Type 0} {a b : Answers} {first second first_too second_too : Part A} (test : Bool) → IsSteady a b first first_too
    → IsSteady a b second second_too
    → IsSteady a b (choose test first second) (choose test first_too second_too)
choose_steady true one other = one
choose_steady false one other = other

-- a part that depends on its situation in other ways too
pub at_each : {A : Type 0} {a b : Answers} (part other : Situation → Part A) → ((now : Situation) → IsSteady a b (part now) (other now))
    → IsSteady a b (λ now. part now now) (λ now. other now now)
at_each part other steady = record {
  follows = λ now. (steady now).follows now;
  follows_too = λ now. (steady now).follows_too now;
  extends = λ now. (steady now).extends now;
}

-- ---- The smallest parts

nothing_more : (a : Answers) (now : Situation) (calls : List SysCall) → calls ≡ now.made → Grows a now calls
nothing_more a now calls same = record {
  rest = [];
  made = same ∙ sym (append-nil now.made);
  answered = λ is. subst (IsAnswered a) (sym same) is;
}

-- a change of a situation that leaves the calls
abbrev pub Keeps : (Situation → Situation) → Type 0
Keeps change = (now : Situation) → (change now).made ≡ now.made

pub gives_steady : {A : Type 0} {a b : Answers} (value : Situation → A) (change : Situation → Situation) → Keeps change
    → IsSteady a b (λ now. Gives (value now) (change now)) (λ now. Gives (value now) (change now))
gives_steady {a = a} {b = b} value change keeps = record {
  follows = λ now. nothing_more a now (change now).made (keeps now);
  follows_too = λ now. nothing_more b now (change now).made (keeps now);
  extends = λ now agree. refl;
}

pub value_steady : {A : Type 0} {a b : Answers} (v : A) → IsSteady a b (Gives v) (Gives v)
value_steady v = gives_steady (λ now. v) (λ now. now) (λ now. refl)

pub end_steady : {A : Type 0} {a b : Answers} (r : ProgResult) → IsSteady a b (end_with {A = A} r) (end_with {A = A} r)
end_steady {a = a} {b = b} r = record {
  follows = λ now. nothing_more a now now.made refl;
  follows_too = λ now. nothing_more b now now.made refl;
  extends = λ now agree. refl;
}

pub time_steady : {A : Type 0} {a b : Answers} (line : ℕ) → IsSteady a b (time_is_up {A = A} line) (time_is_up {A = A} line)
time_steady {a = a} {b = b} line = record {
  follows = λ now. nothing_more a now now.made refl;
  follows_too = λ now. nothing_more b now now.made refl;
  extends = λ now agree. refl;
}

pub number_steady : {a b : Answers} (v : Option ℤ) → IsSteady a b (number_or_overflow v) (number_or_overflow v)
number_steady (Some v) = value_steady v
number_steady None = end_steady _

pub tick_steady : {a b : Answers} (limit line : ℕ) → IsSteady a b (take_tick limit line) (take_tick limit line)
tick_steady limit line =
    let taken : Part (Unit {0}) = λ n. Gives tt (record n { line = line; ticks = n.ticks + 1 }) in
    let part : Situation → Part (Unit {0}) = λ now. choose (nat_lt now.ticks limit) taken (time_is_up line) in
    at_each part part (λ now. choose_steady (nat_lt now.ticks limit) (gives_steady (λ n. tt) (λ n. record n {
      line =
          line;
      ticks = n.ticks + 1;
    }) (λ n. refl)) (time_steady line))

-- ---- Calls of the interface

call_follows : (a : Answers) (answer : Option SysReply) (call : SysCall) (now : Situation) → a (now.made ++ call ∷ []) ≡ answer
    → Follows a now (answered_by answer (with_call call now))
call_follows a None call now is = record {
  rest = [];
  call = call;
  made = ap (λ l. l ++ call ∷ []) (sym (append-nil now.made));
  answered = λ before. subst (IsAnswered a) (sym (append-nil now.made)) before;
  none = is;
}
call_follows a (Some replies.CallError) call now is = record { rest = call ∷ []; made = refl; answered = λ before. inr (replies.CallError, is) }
call_follows a (Some reply) call now is = record { rest = call ∷ []; made = refl; answered = λ before. inr (reply, is) }

call_begins : (answer : Option SysReply) (asked : Situation) → Begins asked.made (answered_by answer asked)
call_begins None asked = ([], sym (append-nil asked.made))
call_begins (Some replies.CallError) asked = ([], sym (append-nil asked.made))
call_begins (Some reply) asked = ([], sym (append-nil asked.made))

call_extends : (a b : Answers) (answer answer_too : Option SysReply) (call : SysCall) (now : Situation) → a (now.made ++ call ∷ []) ≡ answer
    → b (now.made ++ call ∷ []) ≡ answer_too
    → Extends a b (answered_by answer (with_call call now)) (answered_by answer_too (with_call call now))
call_extends a b None answer_too call now is is_too = λ agree. call_begins answer_too (with_call call now)
call_extends a b (Some replies.CallError) answer_too call now is is_too =
    λ agree. ap (λ o. answered_by o (with_call call now)) (sym is_too ∙ sym (agree now.made [] call refl) ∙ is)
call_extends a b (Some reply) answer_too call now is is_too =
    λ agree. ap (λ o. answered_by o (with_call call now)) (sym is_too ∙ sym (agree now.made [] call refl) ∙ is)

pub call_steady : {a b : Answers} (call : SysCall) → IsSteady a b (make_call a call) (make_call b call)
call_steady {a = a} {b = b} call = record {
  follows = λ now. call_follows a (a (now.made ++ call ∷ [])) call now refl;
  follows_too = λ now. call_follows b (b (now.made ++ call ∷ [])) call now refl;
  extends = λ now. call_extends a b (a (now.made ++ call ∷ [])) (b (now.made ++ call ∷ [])) call now refl refl;
}
