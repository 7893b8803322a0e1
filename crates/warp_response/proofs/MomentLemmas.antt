-- The date that is counted off is the one of the calendar.
use Rattle.std.proofs.Common.{◌≡◌, ℕ, zero, suc, ◌+◌, ◌-◌, ◌/◌, ◌<◌, ◌≤◌, ◌⊎◌, Bool, true, false, cond, refl}
use Rattle.std.proofs.Common.{sym, ap, ◌∙◌, arith, inl, inr, nat_lt, add-one}
use Rattle.std.proofs.lemmas.Bool.{cases_lt}
use Rattle.std.proofs.lemmas.Bool.Decides.{nat_tests}
use Rattle.httpdate.specs.declared.date.HttpDate.{HttpDate}
use Rattle.httpdate.specs.Calendar.{days_in_year, days_in_month, days_of_years, days_of_months, is_leap_year}
use Rattle.httpdate.specs.Calendar.{weekday, days_from_civil}
use Rattle.httpdate.specs.Valid.{IsValid, parts_secs}
use Rattle.httpdate.specs.Date.{unix_secs, date_text}
use Rattle.httpdate.proofs.CalendarLemmas.{days_of_years_closed, days_of_months_all}
use Rattle.httpdate.proofs.ValidLemmas.{is_valid_complete}
use Rattle.httpdate.proofs.Theorems.{date_text_is}
use Rattle.warp_response.specs.Moment.{year_of, month_of, civil_of, first_undated, date_of}

year_long : (y : ℕ) → 365 ≤ days_in_year y
year_long y = go (is_leap_year y)
  where
    go : (b : Bool) → 365 ≤ cond b 366 365
    go true = omega arith
    go false = omega arith

years_more : (k : ℕ) → days_of_years (k + 1) ≡ days_of_years k + days_in_year (1970 + k)
unfolding days_of_years
years_more k = rw add-one refl

years_rise : (a b : ℕ) → days_of_years a ≤ days_of_years (a + b)
years_rise a zero =
    let e : days_of_years (a + 0) ≡ days_of_years a = ap days_of_years (omega arith) in
    omega arith
years_rise a (suc b) =
    let e : days_of_years (a + suc b) ≡ days_of_years (a + b + 1) = ap days_of_years (omega arith) in
    omega (arith, years_rise a b, years_more (a + b))

years_none : days_of_years 0 ≡ 0
unfolding days_of_years
years_none = refl

months_none : (y : ℕ) → days_of_months y 0 ≡ 0
unfolding days_of_months
months_none y = refl

last_year : days_of_years 8030 ≡ 2932897
last_year = let e = days_of_years_closed 8030 in omega arith

abbrev pub Counts : (n k d : ℕ) → ℕ × ℕ → Type 0
Counts n k d r = (days_of_years r.0 + r.1 ≡ days_of_years k + d) × (r.1 < days_in_year (1970 + r.0))

year_step : (n k d : ℕ) (b : Bool) → nat_lt d (days_in_year (1970 + k)) ≡ b
    → (b ≡ false
    → Counts n (k + 1) (d - days_in_year (1970 + k)) (year_of n (k + 1) (d - days_in_year (1970 + k))))
    → Counts (suc n) k d (cond b (k, d) (year_of n (k + 1) (d - days_in_year (1970 + k))))
year_step n k d true is again = (refl, grind (arith, nat_tests))
year_step n k d false is again =
    let far : days_in_year (1970 + k) ≤ d = grind (arith, nat_tests) in
    let rest = again refl in
    (omega (arith, rest.0, years_more k, far), rest.1)

pub year_counts : (n k d : ℕ) → d ≤ n → Counts n k d (year_of n k d)
unfolding year_of
year_counts zero k d fits = (refl, omega (arith, year_long (1970 + k)))
year_counts (suc n) k d fits = year_step n k d (nat_lt d (days_in_year (1970 + k))) refl
    (λ _. year_counts n (k + 1) (d - days_in_year (1970 + k)) (omega (arith, year_long (1970 + k), fits)))

months_more : (y m : ℕ) → days_of_months y (m + 1) ≡ days_of_months y m + days_in_month y (m + 1)
unfolding days_of_months
months_more y m = rw add-one refl

abbrev pub CountsMonths : (y m d : ℕ) → ℕ × ℕ → Type 0
CountsMonths y m d r =
    (days_of_months y r.0 + r.1 ≡ days_of_months y m + d) × (r.1 < days_in_month y (r.0 + 1)) × (r.0 < 12)

month_step : (n y m d : ℕ) (b : Bool) → nat_lt d (days_in_month y (m + 1)) ≡ b → m < 12
    → (days_in_month y (m + 1) ≤ d → CountsMonths y (m + 1) (d - days_in_month y (m + 1))
    (month_of n y (m + 1) (d - days_in_month y (m + 1))))
    → CountsMonths y m d (cond b (m, d) (month_of n y (m + 1) (d - days_in_month y (m + 1))))
month_step n y m d true is early again = (refl, grind (arith, nat_tests), early)
month_step n y m d false is early again =
    let far : days_in_month y (m + 1) ≤ d = grind (arith, nat_tests) in
    let rest = again far in
    (omega (arith, rest.0, months_more y m, far), rest.1, rest.2)

pub month_counts : (n y m d : ℕ) → m + n ≡ 12 → days_of_months y m + d < days_of_months y 12
    → CountsMonths y m d (month_of n y m d)
unfolding month_of
month_counts zero y m d all fits =
    absurd (let e : m ≡ 12 = omega arith in
    let f : days_of_months y m ≡ days_of_months y 12 = ap (days_of_months y) e in
    omega arith)
month_counts (suc n) y m d all fits =
    month_step n y m d (nat_lt d (days_in_month y (m + 1))) refl (omega arith)
    (λ far. month_counts n y (m + 1) (d - days_in_month y (m + 1)) (omega arith)
    (omega (arith, months_more y m, fits, far)))

civil : (k m d : ℕ)
    → days_from_civil (1970 + k) (m + 1) (d + 1) ≡ days_of_years k + days_of_months (1970 + k) m + d
civil k m d =
    let a : 1970 + k - 1970 ≡ k = omega arith in
    let b : m + 1 - 1 ≡ m = omega arith in
    let c : d + 1 - 1 ≡ d = omega arith in
    rw (a, b, c) refl

early_year : (k d : ℕ) → days_of_years k ≤ d → d < 2932897 → k ≤ 8029
early_year k d fits early = go (cases_lt k 8030)
  where
    go : (k < 8030) ⊎ (8030 ≤ k) → k ≤ 8029
    go (inl small) = omega arith
    go (inr large) =
        let e : days_of_years (8030 + (k - 8030)) ≡ days_of_years k = ap days_of_years (omega arith) in
        absurd (omega (arith, years_rise 8030 (k - 8030), last_year, e))

pub civil_is : (moment : ℕ) → moment < first_undated
    → IsValid (civil_of moment) × (parts_secs (civil_of moment) ≡ moment)
unfolding civil_of
civil_is moment early =
    let days = moment / 86400 in
    let year = year_of days 0 days in
    let found : Counts days 0 days year = year_counts days 0 days (omega arith) in
    let small : year.0 ≤ 8029 = early_year year.0 days (omega (arith, found.0, years_none)) (omega arith) in
    let month = month_of 12 (1970 + year.0) 0 year.1 in
    let in_year : days_of_months (1970 + year.0) 0 + year.1 < days_of_months (1970 + year.0) 12 =
    omega (arith, months_none (1970 + year.0), days_of_months_all (1970 + year.0), found.1) in
    let also : CountsMonths (1970 + year.0) 0 year.1 month =
    month_counts 12 (1970 + year.0) 0 year.1 refl in_year in
    let same : days_from_civil (1970 + year.0) (month.0 + 1) (month.1 + 1) ≡ days =
    civil year.0 month.0 month.1
    ∙ omega (arith, found.0, also.0, years_none, months_none (1970 + year.0)) in (
      (
        (
          (omega arith, omega (arith, small)),
          (omega arith, omega (arith, also.2)),
          (omega arith, omega (arith, also.1)),
        ),
        (omega arith, omega arith, omega arith),
        ap weekday (sym same),
      ),
      rw same (omega arith),
    )

-- the date that httpdate shows of a moment
pub date_is : (d : HttpDate) (moment : ℕ) → moment < first_undated → unix_secs d ≡ moment
    → date_text d ≡ date_of moment
date_is d moment early is =
    let parts = civil_is moment early in
    date_text_is d (civil_of moment) (is_valid_complete (civil_of moment) parts.0) (is ∙ sym parts.1)
