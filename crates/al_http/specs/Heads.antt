-- What is read of a head.
use Rattle.std.specs.Prelude.{◌≡◌, ◌≤◌, ℕ, List, length, drop}
use Rattle.httparse.specs.Grammar.{RequestHead, ReadsRequest, print_request, HasNoRequest, MayBecomeRequest}
use Rattle.al_http.specs.declared.head.Head.{Head}
use Rattle.al_http.specs.declared.head.HeadRead.{HeadRead}
use Rattle.al_http.specs.declared.head.HeadRead.TheVariants.{Partial, Bad, Got}
use Rattle.al_http.specs.Fields.{fields_of, size_of, ends_after}
use Rattle.al_http.specs.Limits.{most_head}
use Rattle.al_http.specs.Requests.{IsWithinLimits, IsBadHead}

-- what was read of the head h
pub record IsHeadOf (h : RequestHead) (head : Head) : Type 0 where
  pub used : head.used ≡ length (print_request h)
  pub method : head.method ≡ h.method
  pub target : head.target ≡ h.target
  pub body : head.body ≡ size_of (fields_of h)
  pub close : head.close ≡ ends_after h

-- the bytes begin with this head
pub record IsHeadAt (buf : List ℕ) (head : Head) (h : RequestHead) : Type 0 where
  pub reads : ReadsRequest buf h (drop head.used buf)
  pub limits : IsWithinLimits h
  pub is : IsHeadOf h head

-- what the bytes so far are
abbrev pub IsRead : List ℕ → HeadRead → Type 0
IsRead buf (Got head) = (h : RequestHead) × IsHeadAt buf head h
IsRead buf Partial = (length buf ≤ most_head) × HasNoRequest buf × MayBecomeRequest buf
IsRead buf Bad = IsBadHead buf
