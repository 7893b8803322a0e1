use Rattle.std.proofs.Common.{refl, arith}
use Rattle.conn_loop.proofs.BodyLemmas.{feeds_of, more_fits, more_kept, more_nearer, more_lies, more_up}
use Rattle.conn_loop.proofs.BodyLemmas.{whole_lies, refused_lies, refused_kept}
use Rattle.conn_loop.proofs.bodies.read_on.Goals as goal

pub overflow_sub-result : goal.overflow_sub-result
overflow_sub-result c =
    let fed = c.feed-fed.ensures in
    let feeds = feeds_of c.bytes.result.now c.args.input.now c.args.head.head_len c.args.reader
    c.feed-fed.new.self c.feed-fed.result.used c.feed-fed.result.state c.bytes.ensures.is
    fed.within fed.state fed.stands fed.shows fed.all in
    more_fits c.args.input.now c.args.head c.args.reader c.feed-fed.new.self c.feed-fed.result.used
    c.args.room c.feed-fed.result.state c.requires.head c.requires.counted feeds c.in-More.is

pub returns-in-More-clause-lies : goal.returns-in-More-clause-lies
returns-in-More-clause-lies c fed ahead stands parts asks path =
    let e = c.feed-fed.ensures in
    let feeds = feeds_of c.bytes.result.now c.args.input.now c.args.head.head_len
    c.args.reader c.feed-fed.new.self c.feed-fed.result.used c.feed-fed.result.state
    c.bytes.ensures.is e.within e.state e.stands e.shows e.all in (
      refl,
      more_lies c.args.input.now c.args.head c.args.reader c.feed-fed.new.self c.feed-fed.result.used
          c.args.room c.feed-fed.result.state c.requires.head c.requires.counted feeds
          c.keep.new.self fed ahead c.keep.ensures c.in-More.is stands parts asks,
    )

pub returns-in-More-clause-kept : goal.returns-in-More-clause-kept
returns-in-More-clause-kept c = λ left size.
    let e = c.feed-fed.ensures in
    let feeds = feeds_of c.bytes.result.now c.args.input.now c.args.head.head_len
    c.args.reader c.feed-fed.new.self c.feed-fed.result.used c.feed-fed.result.state
    c.bytes.ensures.is e.within e.state e.stands e.shows e.all in (
      more_kept c.args.input.now c.args.head c.args.reader c.feed-fed.new.self c.feed-fed.result.used
          c.args.room c.feed-fed.result.state c.requires.head c.requires.counted feeds
          c.keep.new.self c.keep.ensures c.in-More.is,
      tt,
    )

pub returns-in-More-clause-read : goal.returns-in-More-clause-read
returns-in-More-clause-read c = λ path.
    let e = c.feed-fed.ensures in
    let feeds = feeds_of c.bytes.result.now c.args.input.now c.args.head.head_len c.args.reader
    c.feed-fed.new.self c.feed-fed.result.used c.feed-fed.result.state c.bytes.ensures.is
    e.within e.state e.stands e.shows e.all in
    more_up c.args.input.now c.args.head c.args.reader c.feed-fed.new.self c.feed-fed.result.used
    c.args.room c.feed-fed.result.state c.requires.head c.requires.counted feeds
    c.keep.new.self c.keep.ensures

pub returns-in-More-clause-nearer : goal.returns-in-More-clause-nearer
returns-in-More-clause-nearer c = λ path.
    let e = c.feed-fed.ensures in
    let feeds = feeds_of c.bytes.result.now c.args.input.now c.args.head.head_len c.args.reader
    c.feed-fed.new.self c.feed-fed.result.used c.feed-fed.result.state c.bytes.ensures.is
    e.within e.state e.stands e.shows e.all in
    omega (
      arith,
      more_nearer c.args.input.now c.args.head c.args.reader c.feed-fed.new.self c.feed-fed.result.used
          c.args.room c.feed-fed.result.state c.requires.head c.requires.counted feeds
          c.keep.new.self c.keep.ensures c.in-More.is,
    )

pub returns-in-Whole-clause-lies : goal.returns-in-Whole-clause-lies
returns-in-Whole-clause-lies c fed ahead stands parts asks path =
    let e = c.feed-fed.ensures in
    let feeds = feeds_of c.bytes.result.now c.args.input.now c.args.head.head_len
    c.args.reader c.feed-fed.new.self c.feed-fed.result.used c.feed-fed.result.state
    c.bytes.ensures.is e.within e.state e.stands e.shows e.all in (
      refl,
      whole_lies c.args.input.now c.args.head c.args.reader c.feed-fed.new.self c.feed-fed.result.used
          c.args.room c.feed-fed.result.state c.requires.head c.requires.counted feeds
          fed ahead c.in-Whole.is stands parts asks,
    )

pub returns-in-Refuse-clause-lies : goal.returns-in-Refuse-clause-lies
returns-in-Refuse-clause-lies c fed ahead stands parts asks path =
    let e = c.feed-fed.ensures in
    let feeds = feeds_of c.bytes.result.now c.args.input.now c.args.head.head_len
    c.args.reader c.feed-fed.new.self c.feed-fed.result.used c.feed-fed.result.state
    c.bytes.ensures.is e.within e.state e.stands e.shows e.all in (
      refl,
      refused_lies c.args.input.now c.args.head c.args.reader c.feed-fed.new.self c.feed-fed.result.used
          c.args.room c.feed-fed.result.state c.requires.head c.requires.counted feeds
          c.in-Refuse.code fed ahead c.in-Refuse.is stands parts asks,
    )

pub returns-in-Refuse-clause-kept : goal.returns-in-Refuse-clause-kept
returns-in-Refuse-clause-kept c = λ left size.
    let e = c.feed-fed.ensures in
    let feeds = feeds_of c.bytes.result.now c.args.input.now c.args.head.head_len
    c.args.reader c.feed-fed.new.self c.feed-fed.result.used c.feed-fed.result.state
    c.bytes.ensures.is e.within e.state e.stands e.shows e.all in (
      refused_kept c.args.input.now c.args.head c.args.reader c.feed-fed.new.self c.feed-fed.result.used
          c.args.room c.feed-fed.result.state c.requires.head c.requires.counted feeds
          c.in-Refuse.code c.in-Refuse.is,
      tt,
    )
