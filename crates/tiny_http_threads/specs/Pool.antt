-- A POOL OF WORKERS: the jobs that wait for one, and how many workers there are.
use Rattle.std.specs.Prelude.{◌≡◌, ℕ, ◌+◌, ◌-◌, ◌^◌, ◌<◌, ◌≤◌, ◌⊎◌, Bool, true, false, List, [], ◌∷◌, ◌++◌, length}
use Rattle.std.specs.Prelude.{Option, Some, None}
use Rattle.tiny_http_threads.specs.declared.task_pool.TheConstants.{MIN_THREADS}
use Rattle.tiny_http_threads.specs.declared.task_pool.Offered.{Offered}
use Rattle.tiny_http_threads.specs.declared.task_pool.Offered.TheVariants.{Queued, Start, Back}

-- The parts of a `PoolState` that contracts refer to: the jobs that wait, front first; how many workers run, and how
-- many of these are idle; whether the pool is closed.
pub record Pool (J : Type 0) : Type 0 where
  pub jobs : List J
  pub idle : ℕ
  pub running : ℕ
  pub closed : Bool

module _ {J : Type 0} where
  -- Whether a pool is sound: at most as many jobs wait as workers are idle, and at most as many workers are idle as
  -- run.
  pub record IsSound (pool : Pool J) : Type 0 where
    pub jobs_fit : length pool.jobs ≤ pool.idle
    pub idle_fit : pool.idle ≤ pool.running

  -- the pool with this number of running workers, in which no job waits and no worker is idle
  abbrev pub new_pool : ℕ → Pool J
  new_pool running = record { jobs = []; idle = 0; running = running; closed = false }

  -- Whether a pool that is offered a job returns this result. `Queued`: more workers were idle than jobs waited, and
  -- the job waits after those. `Start`: it must start on one more worker. `Back`: memory is refused, or 2^64 - 1
  -- workers run.
  abbrev pub Offers : Pool J → J → Offered J → Pool J → Type 0
  Offers old job Queued new = (length old.jobs < old.idle) × (new ≡ record old { jobs = old.jobs ++ job ∷ [] })
  Offers old job (Start same) new = (same ≡ job)
      × (old.idle ≤ length old.jobs)
      × (old.running < 2 ^ 64 - 1)
      × (new ≡ record old { running = old.running + 1 })
  Offers old job (Back same) new = (same ≡ job) × (old.idle ≤ length old.jobs → old.running ≡ 2 ^ 64 - 1) × (new ≡ old)

  -- whether a pool counts one fewer running worker, or, if all workers that run are idle, is unchanged
  abbrev pub NotStarted : Pool J → Pool J → Type 0
  NotStarted old new = (old.idle < old.running → new ≡ record old { running = old.running - 1 })
      × (old.running ≤ old.idle → new ≡ old)

  -- whether a worker that isn't idle takes the front job, if one waits
  abbrev pub TakesJob : Pool J → Option J → Pool J → Type 0
  TakesJob old None new = (old.jobs ≡ []) × (new ≡ old)
  TakesJob old (Some job) new = (old.jobs ≡ job ∷ new.jobs) × (new ≡ record old { jobs = new.jobs })

  -- whether a worker becomes idle; the flag is false, and nothing changes, if a job waits or all workers that run are
  -- idle
  abbrev pub Rests : Pool J → Bool → Pool J → Type 0
  Rests old true new = (old.jobs ≡ []) × (old.idle < old.running) × (new ≡ record old { idle = old.idle + 1 })
  Rests old false new = (old.jobs ≡ [] → old.running ≤ old.idle) × (new ≡ old)

  -- whether an idle worker takes the front job, if one waits, and is then no longer idle
  abbrev pub Wakes : Pool J → Option J → Pool J → Type 0
  Wakes old None new = (old.jobs ≡ []) × (new ≡ old)
  Wakes old (Some job) new = (old.jobs ≡ job ∷ new.jobs)
      × (0 < old.idle)
      × (new ≡ record old { jobs = new.jobs; idle = old.idle - 1 })

  -- whether an idle worker ends; the flag is false, and nothing changes, unless a worker is idle, no job waits, and
  -- either more than `MIN_THREADS` workers run or the pool is closed
  abbrev pub EndsIdle : Pool J → Bool → Pool J → Type 0
  EndsIdle old true new = (0 < old.idle)
      × (old.jobs ≡ [])
      × ((MIN_THREADS < old.running) ⊎ (old.closed ≡ true))
      × (new ≡ record old { idle = old.idle - 1; running = old.running - 1 })
  EndsIdle old false new = (0 < old.idle → old.jobs ≡ [] → (old.running ≤ MIN_THREADS) × (old.closed ≡ false))
      × (new ≡ old)
