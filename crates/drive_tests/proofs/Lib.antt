mod Books
