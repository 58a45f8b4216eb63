use Rattle.session_answer.proofs.laws.cut_sessions_begin_their_replies.Goals as goal

pub returns : goal.returns
returns c terms graph line outcomes before after within cut =
    let replies = c.sessions_have_replies.ensures terms graph line outcomes within in (
      replies.0,
      replies.1,
      record { given = cut.given; is_prefix = cut.is_prefix replies.0 replies.1; appended = cut.appended },
      c.replies_are_unique.ensures terms graph line outcomes,
    )
