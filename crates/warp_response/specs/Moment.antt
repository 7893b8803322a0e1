-- To be believed: the date of a moment, counted off year by year and month by month. A
-- law ties it to the calendar.
use Rattle.std.specs.Prelude.{ℕ, zero, suc, ◌+◌, ◌-◌, ◌/◌, ◌%◌, List, nat_lt, if◌then◌else◌}
use Rattle.httpdate.specs.declared.parts.Parts.{Parts}
use Rattle.httpdate.specs.Calendar.{days_in_year, days_in_month, weekday}
use Rattle.httpdate.specs.Text.{imf_fixdate}

-- how many years have passed since 1970, and how many days since; the first argument
-- bounds the years that are tried
unfoldable pub year_of : ℕ → ℕ → ℕ → ℕ × ℕ
year_of zero k d = (k, d)
year_of (suc n) k d =
    if nat_lt d (days_in_year (1970 + k)) then (k, d) else year_of n (k + 1) (d - days_in_year (1970 + k))

-- how many months of the year have passed, and how many days since
unfoldable pub month_of : ℕ → ℕ → ℕ → ℕ → ℕ × ℕ
month_of zero y m d = (m, d)
month_of (suc n) y m d =
    if nat_lt d (days_in_month y (m + 1)) then (m, d) else month_of n y (m + 1) (d - days_in_month y (m + 1))

-- the year, month, day, hour, minute, second and weekday of a moment
unfoldable pub civil_of : ℕ → Parts
civil_of moment =
    let days = moment / 86400 in
    let second = moment % 86400 in
    let year = year_of days 0 days in
    let month = month_of 12 (1970 + year.0) 0 year.1 in
    record {
      year = 1970 + year.0;
      mon = month.0 + 1;
      day = month.1 + 1;
      hour = second / 3600;
      min = second % 3600 / 60;
      sec = second % 60;
      wday = weekday days;
    }

-- the first moment that has no date: the beginning of the year 10000
abbrev pub first_undated : ℕ
first_undated = 253402300800

-- IMF-fixdate of a moment before it
abbrev pub date_of : ℕ → List ℕ
date_of moment = imf_fixdate (civil_of moment)
