-- What a session's commands are to the job process, over files of an area that may tell its pages.
use Rattle.std.specs.Prelude.{◌≡◌, ℕ, List, Option, Some}
use Rattle.disk_layout.specs.Files.{files as file_map}
use Rattle.disk_layout.specs.Format.{IsSoloDisk}
use Rattle.solo_law.specs.Work.{Given, Plan}
use Rattle.session_law.specs.Plans.{session_plan, plan_from}
use Rattle.solo_task.specs.Needs.{Pause}
use Rattle.session_law.specs.Passing.{ComesBy, stands_behind}
use Rattle.session_work.specs.declared.session.Session.{Session}
use Rattle.session_work.specs.Pausing.{StandsAt}

-- what all work on told files comes to is the session's plan
pub record OpensWith (opening : Option (List (List ℕ))) (plan : Plan) : Type 0 where
  pub pages : List (List ℕ)
  pub told : opening ≡ Some pages
  pub is : plan ≡ session_plan (file_map pages)

-- and from where the command pauses it is the rest of that
pub record PlansFrom (s : Session) (now : Option (List (List ℕ))) (plan : Plan) : Type 0 where
  pub pages : List (List ℕ)
  pub told : now ≡ Some pages
  pub pause : Pause
  pub stands : StandsAt s (file_map pages) pause
  pub is : plan ≡ plan_from (record { files = file_map pages; pause = pause })

-- the pieces of work so far led to these files, and to where the command pauses; a Solo disk is still one
pub record LedTo (opening : List (List ℕ)) (before : List Given) (s : Session) (now : Option (List (List ℕ)))
    : Type 0 where
  pub left : List (List ℕ)
  pub told : now ≡ Some left
  pub files : file_map left ≡ (stands_behind (file_map opening) before).files
  pub stands : StandsAt s (file_map left) (stands_behind (file_map opening) before).pause
  pub solo : IsSoloDisk opening → IsSoloDisk left

-- the files are some to which work that began so comes, and a Solo disk is still one
pub record PassedTo (opening : List (List ℕ)) (before : List Given) (now : Option (List (List ℕ)))
    : Type 0 where
  pub left : List (List ℕ)
  pub told : now ≡ Some left
  pub comes : ComesBy (file_map opening) before (file_map left)
  pub solo : IsSoloDisk opening → IsSoloDisk left

abbrev pub Follows : Session → Option (List (List ℕ)) → List Given → Option (List (List ℕ)) → Type 0
Follows s opening before now = (pages : List (List ℕ)) → opening ≡ Some pages → LedTo pages before s now

abbrev pub Passes : Option (List (List ℕ)) → List Given → Option (List (List ℕ)) → Type 0
Passes opening before now = (pages : List (List ℕ)) → opening ≡ Some pages → PassedTo pages before now
